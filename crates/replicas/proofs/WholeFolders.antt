-- Whole folders, over the source's events as they came.
use Rattle.std.proofs.Common.{arith}
use Rattle.replicas.specs.Laws.{LivesAreSources, BootstrapsGoLive, IncrementsStayLive, Passes}
use Rattle.replicas.specs.Life.{ops_of}
use Rattle.replicas.proofs.Filtered.{of_database, above_position}
use Rattle.replicas.proofs.Folder.{goes_live, stays_live}
use Rattle.replicas.proofs.Life.{is_alive, life_is_source}

pub are_sources : LivesAreSources
are_sources test w seen changes base newest b end life low high db = life_is_source (Passes test) w seen changes base newest b end life low high db

pub bootstraps : BootstrapsGoLive
bootstraps test w seen changes base newest b begin at end events r r' life low high first last still numbered replays stands =
    let made = is_alive (Passes test) w seen changes base newest life begin low (omega (arith, stands.begun, stands.in_range, high)) b first in
    let source = life_is_source (Passes test) w seen changes base newest b end life (omega (arith, low, stands.begun, stands.in_range)) high last in
    goes_live test seen (ops_of w b changes) b end begin at end _ r r' source still made.high (omega arith)
    (above_position (ops_of w b changes) begin at end _ stands.begun (of_database w b changes begin end events numbered)) replays stands

pub increments : IncrementsStayLive
increments test w seen changes base newest b begin at end events r r' life low up le high first last numbered replays stands =
    let made = is_alive (Passes test) w seen changes base newest life begin low (omega (arith, up, le, high)) b first in
    let source = life_is_source (Passes test) w seen changes base newest b end life (omega (arith, low, up, le)) high last in
    stays_live test seen (ops_of w b changes) b end at end _ r r' source (let from = made.high in omega (arith, from, up)) le (omega arith)
    (above_position (ops_of w b changes) begin at end _ up (of_database w b changes begin end events numbered)) replays stands

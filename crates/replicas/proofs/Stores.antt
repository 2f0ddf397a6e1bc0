-- Loads over the catalogue of a replica's store.
use Rattle.std.proofs.Common.{◌≡◌, inl, inr, ℕ, ◌≤◌, Bool, true, false, List, [], ◌∷◌, refl, sym, ◌∙◌, ap, subst, arith}
use Rattle.std.specs.Prelude.{filter}
use Rattle.cat_objects.specs.Catalogue.{Catalogue, database}
use Rattle.cat_types.specs.declared.changes.Change.{Change}
use Rattle.cat_types.specs.declared.changes.Event.{Event}
use Rattle.cat_types.specs.declared.changes.Op.{Op}
use Rattle.replicas.specs.Catalogues.{IsInOrder, is_sound, objects_of}
use Rattle.replicas.specs.Histories.{AreChanges, source_of}
use Rattle.replicas.specs.Laws.{Passes}
use Rattle.replicas.specs.Life.{HasDb, is_above, is_of, ops_of}
use Rattle.replicas.specs.Objects.{Name, Has, SameObjects}
use Rattle.replicas.specs.Operations.{Done}
use Rattle.replicas.specs.Replay.{Acts, Replays}
use Rattle.replicas.specs.Source.{Source}
use Rattle.replicas.specs.Stands.{ReplaysAll, ReplaysEvents}
use Rattle.replicas.specs.StoreLaws.{StoreEventKeeps, StoreEventsThenLive, StoreLiveEventKeeps, StoresGoLive, StoresReplay, StoresStayLive}
use Rattle.replicas.specs.Stores.{Redoes, RedoesAll, RedoesEvents, Store, replica_of}
use Rattle.replicas.specs.Tests.{acts}
use Rattle.replicas.proofs.CatalogueDone.{done_by_catalogue, order_stays, same_in}
use Rattle.replicas.proofs.Folder.{keeps_event, keeps_live, then_live}
use Rattle.replicas.proofs.Histories.{history_is_life}
use Rattle.replicas.proofs.Life.{is_alive, life_is_source}
use Rattle.replicas.proofs.LiveKeeps.{db_stays_there}
use Rattle.replicas.proofs.Tests.{acts_decides}
use Rattle.replicas.proofs.WholeFolders.{bootstraps, increments}

-- a store whose names rise, and which has the replica
pub record Ready (w : Name) (s : Store) : Type 0 where
  pub order : IsInOrder s.catalogue
  pub there : Has (objects_of w s.catalogue).db

same_catalogue : (w : Name) (s t : Store) → t.catalogue ≡ s.catalogue → SameObjects (objects_of w s.catalogue) (objects_of w t.catalogue)
same_catalogue w s t is = same_in (database s.catalogue w) (database t.catalogue w) (ap (λ (c : Catalogue). database c w) is)

ready_same : (w : Name) (s t : Store) → t.catalogue ≡ s.catalogue → Ready w s → Ready w t
ready_same w s t is h = record { order = subst IsInOrder (sym is) h.order; there = subst (λ (c : Catalogue). Has (objects_of w c).db) (sym is) h.there }

-- what is replayed in a store is replayed on its replica
pub record Replayed (w : Name) (t : Store) (R : Type 0) : Type 0 where
  pub replays : R
  pub ready : Ready w t

op_replays : (w : Name) (born e : ℕ) (op : Op) (s t : Store) → Ready w s → Redoes w born e op s t → Replayed w t (Replays (Passes is_sound) e op (replica_of w s) (replica_of w t))
op_replays w born e op s t ready redoes = by (acts is_sound e op (replica_of w s)) refl
  where
    by : (b : Bool) → acts is_sound e op (replica_of w s) ≡ b → Replayed w t (Replays (Passes is_sound) e op (replica_of w s) (replica_of w t))
    by true is =
        let a : Acts (Passes is_sound) e op (replica_of w s) = (acts_decides is_sound e op (replica_of w s)).0 is in
        let d = redoes.does is in
        let done : Done op (objects_of w s.catalogue) (objects_of w t.catalogue) = subst (λ (c : Catalogue). Done op (objects_of w s.catalogue) (objects_of w c)) (sym d.0) (done_by_catalogue w born op s.catalogue ready.order ready.there a.fits) in record {
          replays = inl (record { acts = a; objects = done; marks = d.1 });
          ready = record {
            order = subst IsInOrder (sym d.0) (order_stays w born op s.catalogue ready.order);
            there = db_stays_there op (objects_of w s.catalogue) (objects_of w t.catalogue) done ready.there;
          };
        }
    by false is =
        let d = redoes.leaves is in record {
          replays = inr (record {
            acts_not = λ a. let on : acts is_sound e op (replica_of w s) ≡ true = (acts_decides is_sound e op (replica_of w s)).1 a in let no_more : true ≡ false = sym on ∙ is in absurd (cc);
            objects = same_catalogue w s t d.0;
            marks = d.1;
          });
          ready = ready_same w s t d.0 ready;
        }

ops_replay : (w : Name) (born e : ℕ) (ops : List Op) (s t : Store) → Ready w s → RedoesAll w born e ops s t → Replayed w t (ReplaysAll (Passes is_sound) e ops (replica_of w s) (replica_of w t))
ops_replay w born e [] s t ready redoes = record { replays = (same_catalogue w s t redoes.0, redoes.1); ready = ready_same w s t redoes.0 ready }
ops_replay w born e (op ∷ ops) s t ready redoes =
    let one = op_replays w born e op s redoes.0 ready redoes.1 in
    let more = ops_replay w born e ops redoes.0 t one.ready redoes.2 in
    record { replays = (replica_of w redoes.0, one.replays, more.replays); ready = more.ready }

events_replay : (w : Name) (born : ℕ) (events : List Event) (s t : Store) → Ready w s → RedoesEvents w born events s t → Replayed w t (ReplaysEvents (Passes is_sound) events (replica_of w s) (replica_of w t))
events_replay w born [] s t ready redoes = record { replays = (same_catalogue w s t redoes.0, redoes.1); ready = ready_same w s t redoes.0 ready }
events_replay w born (event ∷ events) s t ready redoes =
    let one = ops_replay w born event.id event.change.ops s redoes.0 ready redoes.1 in
    let more = events_replay w born events redoes.0 t one.ready redoes.2 in
    record { replays = (replica_of w redoes.0, one.replays, more.replays); ready = more.ready }

pub stores_replay : StoresReplay
stores_replay w born events s t order there redoes =
    let done = events_replay w born events s t (record { order = order; there = there }) redoes in
    (done.replays, done.ready.order)

-- ---- loads

-- the born is at or below a number at which the database has it
born_below : (w : Name) (cats : ℕ → Catalogue) (changes : ℕ → Change) (base newest b k : ℕ) → AreChanges cats changes base newest → base ≤ k → k ≤ newest → HasDb b (source_of w cats k) → b ≤ k
born_below w cats changes base newest b k h low high db = (is_alive (Passes is_sound) w (source_of w cats) changes base newest (history_is_life cats changes base newest h w) k low high b db).high

-- the source of a database
source_at : (w : Name) (cats : ℕ → Catalogue) (changes : ℕ → Change) (base newest b end : ℕ) → AreChanges cats changes base newest → base ≤ end → end ≤ newest → HasDb b (source_of w cats end) → Source (Passes is_sound) (source_of w cats) (ops_of w b changes) b end
source_at w cats changes base newest b end h low high db = life_is_source (Passes is_sound) w (source_of w cats) changes base newest b end (history_is_life cats changes base newest h w) low high db

up : (a b c : ℕ) → a ≤ b → b ≤ c → a ≤ c
up a b c low high = omega (arith, low, high)

pub event_keeps : StoreEventKeeps
event_keeps w target cats changes base newest b begin at n end born s t h low high first last still over under quiet order redoes stands =
    let within : begin ≤ end = up begin at end stands.begun stands.in_range in
    let source = source_at w cats changes base newest b end h (up base begin end low within) high last in
    let made = born_below w cats changes base newest b begin h low (up begin end newest within high) first in
    let done = ops_replay target born n (ops_of w b changes n) s t (record { order = order; there = stands.db_there }) redoes in
    (keeps_event is_sound (source_of w cats) (ops_of w b changes) b end begin at n end (replica_of target s) (replica_of target t) source still made (up end end end (omega arith) (omega arith)) over under quiet done.replays stands, done.ready.order)

pub live_event_keeps : StoreLiveEventKeeps
live_event_keeps w target cats changes base newest b at n born s t h low high first last over quiet order redoes stands =
    let before : at ≤ n = omega (arith, over) in
    let source = source_at w cats changes base newest b n h (up base at n low before) high last in
    let made = born_below w cats changes base newest b at h low (up at n newest before high) first in
    let done = ops_replay target born n (ops_of w b changes n) s t (record { order = order; there = stands.db_there }) redoes in
    (keeps_live is_sound (source_of w cats) (ops_of w b changes) b n at n (replica_of target s) (replica_of target t) source made over (omega arith) quiet done.replays stands, done.ready.order)

pub events_then_live : StoreEventsThenLive
events_then_live w target cats changes base newest b begin at end s h low high first last quiet stands =
    let within : begin ≤ end = up begin at end stands.begun stands.in_range in
    let source = source_at w cats changes base newest b end h (up base begin end low within) high last in
    let made = born_below w cats changes base newest b begin h low (up begin end newest within high) first in
    then_live is_sound (source_of w cats) (ops_of w b changes) b end begin at end (replica_of target s) source made (omega arith) quiet stands

pub go_live : StoresGoLive
go_live w target cats changes base newest b begin at end born events s t h low high first last still numbered order redoes stands =
    let done = events_replay target born (filter (is_above at) (filter (is_of w b) events)) s t (record { order = order; there = stands.db_there }) redoes in
    (bootstraps is_sound w (source_of w cats) changes base newest b begin at end events (replica_of target s) (replica_of target t) (history_is_life cats changes base newest h w) low high first last still numbered done.replays stands, done.ready.order)

pub stay_live : StoresStayLive
stay_live w target cats changes base newest b begin at end born events s t h low begun le high first last numbered order redoes stands =
    let done = events_replay target born (filter (is_above at) (filter (is_of w b) events)) s t (record { order = order; there = stands.db_there }) redoes in
    (increments is_sound w (source_of w cats) changes base newest b begin at end events (replica_of target s) (replica_of target t) (history_is_life cats changes base newest h w) low begun le high first last numbered done.replays stands, done.ready.order)

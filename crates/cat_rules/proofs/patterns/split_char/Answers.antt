use Rattle.std.proofs.Common.{◌≡◌, ◌++◌}
use Rattle.std.specs.Prelude.{encode_utf8}
use Rattle.std.proofs.lemmas.Str.{chars_past_char}
use Rattle.cat_rules.proofs.patterns.split_char.Goals as goal

pub returns-in-Some : goal.returns-in-Some
returns-in-Some c =
    let step : c.chars-rest.result.rest.now ≡ encode_utf8 c.in-Some.first ++ c.next.new.self.rest.now = c.in-Some.ensures.steps.0 in
    let cut : c.args.text.now ≡ encode_utf8 c.in-Some.first ++ c.as_str.result.now = cc (c.chars-rest.ensures.rest, c.as_str.ensures) in
    chars_past_char _ _ _ c.utf8.text cut

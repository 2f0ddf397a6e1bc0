-- Files that are read one after the other.
use Rattle.std.proofs.Common.{◌≡◌, sym, subst, ap, ◌∙◌, refl, ℕ, suc, ◌<◌, ◌+◌, length, take, drop, slice_index_or, List, [], ◌∷◌, ◌++◌, Option, None}
use Rattle.std.specs.List.{last_or}
use Rattle.change_codec.specs.Forms.{Form}
use Rattle.dump_files.specs.Files.{IsFile, Rule}
use Rattle.dump_files.proofs.Joined.{AreFiles-more, all_of-more}
use Rattle.hms_outside.specs.Told.{Goes, Same}
use Rattle.dump_manifest.specs.declared.manifest.FileLine.{FileLine}
use Rattle.dump_format.specs.declared.harm.Harm.{Harm}
use Rattle.dump_format.specs.Files.{AreRead, AreThere, HasHarm, IsFirstHarm, IsTaken, IsThere}
use Rattle.dump_format.proofs.Found.{found_before, one_line_more, split_at}

abbrev Folded : Type 0
Folded = Option (List (List ℕ × List ℕ))

there_before : {T : Type 0} (a b : Folded) (dir : List ℕ) (form : Form T) (line : FileLine) (xs : List T) → Goes Same a b → IsThere b dir form line xs → IsThere a dir form line xs
there_before a b dir form line xs ab t = record { bytes = t.bytes; found = found_before a b _ _ ab t.found; sound = t.sound; coded = t.coded; spelled = t.spelled }

there_more : {T : Type 0} (files : Folded) (dir : List ℕ) (form : Form T) (lines : List FileLine) (contents : List (List T)) (line : FileLine) (more : List T)
    → AreThere files dir form lines contents → IsThere files dir form line more → AreThere files dir form (lines ++ line ∷ []) (contents ++ more ∷ [])
there_more files dir form [] [] line more are is = (is, tt)
there_more files dir form [] (c ∷ contents) line more are is = absurd are
there_more files dir form (l ∷ lines) [] line more are is = absurd are
there_more files dir form (l ∷ lines) (c ∷ contents) line more are is = (are.0, there_more files dir form lines contents line more are.1 is)

-- no line, and no element
pub none_read : {T : Type 0} (files : Folded) (dir : List ℕ) (rule : Rule T) (form : Form T) → AreRead files dir rule form [] []
none_read files dir rule form = record { contents = []; there = tt; stand = tt; all = refl }

-- one file more
read_more : {T : Type 0} (files : Folded) (dir : List ℕ) (rule : Rule T) (form : Form T) (lines : List FileLine) (line : FileLine) (old new more : List T)
    → AreRead files dir rule form lines old → new ≡ old ++ more → IsThere files dir form line more → IsFile rule (last_or None old) more → AreRead files dir rule form (lines ++ line ∷ []) new
read_more files dir rule form lines line old new more are grown is may = record {
  contents = are.contents ++ more ∷ [];
  there = there_more files dir form lines are.contents line more are.there is;
  stand = AreFiles-more rule None are.contents more are.stand (subst (λ (xs : List _). IsFile rule (last_or None xs) more) are.all may);
  all = grown ∙ ap (λ (xs : List _). xs ++ more) are.all ∙ sym (all_of-more are.contents more);
}

-- the file of the line at a place is read
pub read_on : {T : Type 0} (a b : Folded) (dir : List ℕ) (rule : Rule T) (form : Form T) (lines : List FileLine) (i : ℕ) (line : FileLine) (old new : List T)
    → Goes Same a b → i < length lines → line ≡ slice_index_or lines i line → AreRead a dir rule form (take i lines) old → IsTaken b dir rule form line old new None → AreRead a dir rule form (take (i + 1) lines) new
read_on a b dir rule form lines i line old new ab some at are (more, grown, is, may) =
    subst (λ (ls : List FileLine). AreRead a dir rule form ls new) (sym (one_line_more lines i line some at))
    (read_more a dir rule form (take i lines) line old new more are grown (there_before a b dir form line more ab is) may)

-- the file of the line at a place has a harm, which is the first
pub first_harm : {T : Type 0} (a b : Folded) (dir : List ℕ) (rule : Rule T) (form : Form T) (lines : List FileLine) (i : ℕ) (line : FileLine) (old : List T) (name : List ℕ) (harm : Harm)
    → Goes Same a b → i < length lines → line ≡ slice_index_or lines i line → AreRead a dir rule form (take i lines) old → (name ≡ line.name) × HasHarm b dir rule form line old harm
    → IsFirstHarm a dir rule form lines name harm
first_harm a b dir rule form lines i line old name harm ab some at are (named, (found, there, bad)) = record {
  before = take i lines;
  line = line;
  after = drop (suc i) lines;
  split = split_at lines i line some at;
  elements = old;
  good = are;
  named = named;
  harmed = (found, found_before a b _ _ ab there, bad);
}

are_before : {T : Type 0} (a b : Folded) (dir : List ℕ) (form : Form T) (lines : List FileLine) (contents : List (List T)) → Goes Same a b → AreThere b dir form lines contents → AreThere a dir form lines contents
are_before a b dir form [] [] ab are = tt
are_before a b dir form [] (c ∷ contents) ab are = absurd are
are_before a b dir form (l ∷ lines) [] ab are = absurd are
are_before a b dir form (l ∷ lines) (c ∷ contents) ab are = (there_before a b dir form l c ab are.0, are_before a b dir form lines contents ab are.1)

-- what is found in a folder that stayed was there before
pub read_before : {T : Type 0} (a b : Folded) (dir : List ℕ) (rule : Rule T) (form : Form T) (lines : List FileLine) (elements : List T) → Goes Same a b → AreRead b dir rule form lines elements → AreRead a dir rule form lines elements
read_before a b dir rule form lines elements ab are = record {
  contents = are.contents;
  there = are_before a b dir form lines are.contents ab are.there;
  stand = are.stand;
  all = are.all;
}

pub harm_before : {T : Type 0} (a b : Folded) (dir : List ℕ) (rule : Rule T) (form : Form T) (lines : List FileLine) (name : List ℕ) (harm : Harm) → Goes Same a b → IsFirstHarm b dir rule form lines name harm → IsFirstHarm a dir rule form lines name harm
harm_before a b dir rule form lines name harm ab bad = record {
  before = bad.before;
  line = bad.line;
  after = bad.after;
  split = bad.split;
  elements = bad.elements;
  good = read_before a b dir rule form bad.before bad.elements ab bad.good;
  named = bad.named;
  harmed = (bad.harmed.0, found_before a b _ _ ab bad.harmed.1, bad.harmed.2);
}

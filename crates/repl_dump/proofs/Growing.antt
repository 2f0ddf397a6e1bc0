-- What is written after one answer more.
use Rattle.std.proofs.Common.{◌≡◌, ◌⊎◌, ℕ, ◌+◌, ◌<◌, ◌^◌, List, [], ◌∷◌, ◌++◌, length, map, Option, Some, None, refl, sym, ◌∙◌, ap, subst}
use Rattle.std.specs.List.{AllByRecursion}
use Rattle.std.proofs.lemmas.List.{map-append}
use Rattle.cat_types.specs.declared.steps.Answer.{Answer}
use Rattle.cat_types.specs.declared.steps.Answer.TheVariants as answer
use Rattle.dump_texts.specs.Texts.{at_path, end_told, event_texts, files_from, files_told, item_texts, line_of, name_at, path_in, sealed_told}
use Rattle.dump_texts.specs.declared.kinds.FileKind.TheVariants.{EventFile, ItemFile}
use Rattle.dump_texts.proofs.Told.{events_more, files_at, files_more, items_more}
use Rattle.hms_outside.specs.Folders.{file}
use Rattle.hms_outside.specs.Told.{Goes}
use Rattle.repl_dump.specs.Files.{Files, Gained, HasWritten, IsTold, files_next}
use Rattle.repl_dump.specs.declared.writer.Writer.{Writer}
use Rattle.repl_dump.proofs.Putting.{among_front}
use Rattle.repl_dump.proofs.Standing.{event_is_new, files_of, grown, item_is_new}

-- no file was put
still : (texts : Files) (first before after : Option Files) → Goes (Gained texts) first before → Goes (Gained []) before after → Goes (Gained (texts ++ [])) first after
still texts None before after a b = tt
still texts (Some f) None after a b = absurd a
still texts (Some f) (Some g) None a b = b
still texts (Some f) (Some g) (Some h) a b = record {
  each = kept texts a.each;
  others = λ other apart. b.others other (λ is. is) ∙ a.others other (λ is. apart (among_front other texts [] is));
}
  where
    kept : (ts : Files) → AllByRecursion (λ entry. file g entry.0 ≡ Some entry.1) ts → AllByRecursion (λ entry. file h entry.0 ≡ Some entry.1) (ts ++ [])
    kept [] all = tt
    kept (t ∷ ts) all = (b.others t.0 (λ is. is) ∙ all.0, kept ts all.1)

-- an answer makes one file at most
abbrev OneAtMost : List (List ℕ) → List (List ℕ) → Type 0
OneAtMost [] [] = Unit {0}
OneAtMost [] (t ∷ []) = Unit {0}
OneAtMost [] (t ∷ (u ∷ ts)) = ⊥
OneAtMost (t ∷ []) [] = Unit {0}
OneAtMost (t ∷ []) (u ∷ us) = ⊥
OneAtMost (t ∷ (u ∷ ts)) us = ⊥

one_at_most : (given : Answer) → OneAtMost (item_texts (given ∷ [])) (event_texts (given ∷ []))
one_at_most (answer.Reply reply) = tt
one_at_most (answer.Began dump source born begin end None) = tt
one_at_most (answer.Began dump source born begin end (Some first)) = tt
one_at_most (answer.Table table) = tt
one_at_most answer.NoTable = tt
one_at_most (answer.Parts [] more) = tt
one_at_most (answer.Parts (x ∷ xs) more) = tt
one_at_most (answer.Sealed end) = tt
one_at_most (answer.Events [] more) = tt
one_at_most (answer.Events (x ∷ xs) more) = tt
one_at_most answer.Ended = tt
one_at_most (answer.DumpRefused refusal) = tt
one_at_most (answer.Kept first) = tt
one_at_most answer.NotOpen = tt
one_at_most answer.StoreFault = tt
one_at_most answer.NoMemory = tt

grown_by : (dir : List ℕ) (items events its evs : List (List ℕ)) (n m : ℕ) (first before after : Option Files) → n ≡ length items → m ≡ length events → n < 2 ^ 64 → m < 2 ^ 64 → OneAtMost its evs
    → Goes (Gained (files_of dir items events)) first before → Goes (Gained (map (at_path dir) (files_from ItemFile n its ++ files_from EventFile m evs))) before after
    → Goes (Gained (files_of dir items events ++ map (at_path dir) (files_from ItemFile n its ++ files_from EventFile m evs))) first after
grown_by dir items events [] [] n m first before after p q fits too one a b = still (files_of dir items events) first before after a b
grown_by dir items events [] (t ∷ []) n m first before after p q fits too one a b = grown (files_of dir items events) first before after (path_in dir (name_at EventFile m)) t (event_is_new dir items events m q too) a b
grown_by dir items events [] (t ∷ (u ∷ ts)) n m first before after p q fits too one a b = absurd one
grown_by dir items events (t ∷ []) [] n m first before after p q fits too one a b = grown (files_of dir items events) first before after (path_in dir (name_at ItemFile n)) t (item_is_new dir items events n p fits) a b
grown_by dir items events (t ∷ []) (u ∷ us) n m first before after p q fits too one a b = absurd one
grown_by dir items events (t ∷ (u ∷ ts)) us n m first before after p q fits too one a b = absurd one

pub end_more : (end : ℕ) (answers : List Answer) (given : Answer) → end_told end (answers ++ given ∷ []) ≡ sealed_told given (end_told end answers)
end_more end [] given = refl
end_more end (x ∷ answers) given = end_more (sealed_told x end) answers given

-- the next files are those that the counts say
next_is : (answers : List Answer) (given : Answer) (writer : Writer) → writer.items ≡ length (item_texts answers) → writer.events ≡ length (event_texts answers)
    → files_next writer given ≡ files_at (length (item_texts answers)) (length (event_texts answers)) given
next_is answers given writer p q =
    ap (λ n. files_from ItemFile n (item_texts (given ∷ [])) ++ files_from EventFile writer.events (event_texts (given ∷ []))) p
    ∙ ap (λ m. files_from ItemFile (length (item_texts answers)) (item_texts (given ∷ [])) ++ files_from EventFile m (event_texts (given ∷ []))) q

-- all of it
told_all : (answers : List Answer) (given : Answer) (writer : Writer) → writer.items ≡ length (item_texts answers) → writer.events ≡ length (event_texts answers) → (item_texts (given ∷ []) ≡ []) ⊎ (event_texts answers ≡ [])
    → files_told answers ++ files_next writer given ≡ files_told (answers ++ given ∷ [])
told_all answers given writer p q one = ap (λ (l : Files). files_told answers ++ l) (next_is answers given writer p q) ∙ sym (files_more answers given one)

pub written_more : (dir : List ℕ) (end : ℕ) (answers : List Answer) (given : Answer) (old new : Writer) (before after : Option Files) → HasWritten dir end answers old → IsTold given old new before after
    → (item_texts (given ∷ []) ≡ []) ⊎ (event_texts answers ≡ []) → HasWritten dir end (answers ++ given ∷ []) new
written_more dir end answers given old new before after was told one = record {
  dir_is = told.dir_stays ∙ was.dir_is;
  end_is = told.end_is ∙ (ap (λ n. sealed_told given n) was.end_is ∙ sym (end_more end answers given));
  lines = told.lines ∙ (ap (λ l. l ++ map line_of (files_next old given)) was.lines ∙ (sym (map-append line_of (files_told answers) (files_next old given))
      ∙ ap (λ (l : Files). map line_of l) (told_all answers given old was.items was.events one)));
  items = told.items ∙ (ap (λ n. n + length (item_texts (given ∷ []))) was.items ∙ sym (items_more answers given));
  events = told.events ∙ (ap (λ n. n + length (event_texts (given ∷ []))) was.events ∙ sym (events_more answers given));
}

pub text_more : (dir : List ℕ) (end : ℕ) (answers : List Answer) (given : Answer) (old new : Writer) (first before after : Option Files) → HasWritten dir end answers old → IsTold given old new before after
    → (item_texts (given ∷ []) ≡ []) ⊎ (event_texts answers ≡ []) → old.items < 2 ^ 64 → old.events < 2 ^ 64
    → Goes (Gained (map (at_path dir) (files_told answers))) first before → Goes (Gained (map (at_path dir) (files_told (answers ++ given ∷ [])))) first after
text_more dir end answers given old new first before after was told one fits too so_far =
    let next : Goes (Gained (map (at_path dir) (files_next old given))) before after = subst (λ d. Goes (Gained (map (at_path d) (files_next old given))) before after) was.dir_is told.text in
    let all : Goes (Gained (files_of dir (item_texts answers) (event_texts answers) ++ map (at_path dir) (files_next old given))) first after =
    grown_by dir (item_texts answers) (event_texts answers) (item_texts (given ∷ [])) (event_texts (given ∷ [])) old.items old.events first before after was.items was.events fits too (one_at_most given) so_far next in
    subst (λ (l : Files). Goes (Gained l) first after) (sym (map-append (at_path dir) (files_told answers) (files_next old given)) ∙ ap (λ (l : Files). map (at_path dir) l) (told_all answers given old was.items was.events one)) all

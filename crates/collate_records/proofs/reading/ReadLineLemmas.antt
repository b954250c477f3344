-- Reading lines one after another: what is known of those that were read.
use Rattle.std.proofs.Common.{◌≡◌, ℕ, ◌+◌, ◌<◌, ◌≤◌, Bool, true, false, cond, ◌||◌, List, [], ◌∷◌, ◌++◌, length, map, take, drop, get_or, suc, zero, option_map, length-drop, Option, Some, None, sym, ap, ◌∙◌, subst, arith, ⊎_elim}
use Rattle.std.specs.Prelude.{filter, slice_get}
use Rattle.std.specs.Option.{unwrap_or}
use Rattle.std.specs.List.{list_any}
use Rattle.std.proofs.lemmas.Bool.{cases_lt}
use Rattle.std.proofs.lemmas.List.{get_or-map, take_more, length-map, length-take, map-append}
use Rattle.std.proofs.lemmas.List.Folds.{list_any-append}
use Rattle.std.proofs.lemmas.List.Elements.{filter-append}
use Rattle.std.proofs.Math.Bool.{or-false}
use Rattle.std.proofs.Common.{append-nil}
use Rattle.collate_lines.specs.declared.record.Record.{Record as Line}
use Rattle.collate_lines.specs.declared.limits.Limits.{Limits}
use Rattle.collate_lines.specs.declared.rule.Rule.{Rule}
use Rattle.collate_lines.specs.declared.rule.Rule.TheVariants.{Grammar, V14}
use Rattle.collate_lines.specs.Grammar.{record_of}
use Rattle.collate_lines.specs.Record.{Record, nothing, said}
use Rattle.collate_lines.specs.Seen.{is_seen}
use Rattle.collate_lines.specs.Repeats.{record_at, is_second, says_something}
use Rattle.collate_lines.specs.Lines.{line_at, lines_of, numbers_from, numbers_of, records_in, records_of, read_line, IsOutside, PassesSize}
use Rattle.collate_rules.specs.Rules.{rank}
use Rattle.collate_records.specs.declared.reader.Reading.{Reading}
use Rattle.collate_records.specs.Files.{Breaks, OffendsIn}
use Rattle.collate_records.specs.Phases.{AreSound, IsReadTo}
use Rattle.collate_records.proofs.reading.NumberedLemmas.{numbered, number_here, numbers_push}

-- what all lines of a file say
abbrev all_of : List ℕ → List Record
all_of file = records_in (lines_of file)

-- line i was read
pub said_at : (file : List ℕ) (i : ℕ) (s : Record) → i < length (lines_of file) → record_of (line_at (lines_of file) i) ≡ Some s → get_or (all_of file) i nothing ≡ s
said_at file i s h e = get_or-map read_line (lines_of file) i [] nothing h ∙ ap (λ (o : Option Record). unwrap_or o nothing) e

said_to : (file : List ℕ) (i : ℕ) (s : Record) → i < length (lines_of file) → record_of (line_at (lines_of file) i) ≡ Some s → take (i + 1) (all_of file) ≡ take i (all_of file) ++ s ∷ []
said_to file i s h e =
    take_more (all_of file) i nothing (omega (arith, length-map (lines_of file) read_line))
    ∙ ap (λ (x : Record). take i (all_of file) ++ x ∷ []) (said_at file i s h e)

-- one line more, which says something or nothing
kept_to : (file : List ℕ) (i : ℕ) (s : Record) (b : Bool) → i < length (lines_of file) → record_of (line_at (lines_of file) i) ≡ Some s → says_something s ≡ b
    → filter says_something (take (i + 1) (all_of file)) ≡ filter says_something (take i (all_of file)) ++ cond b (s ∷ []) []
kept_to file i s b h e says =
    ap (filter says_something) (said_to file i s h e)
    ∙ filter-append says_something (take i (all_of file)) (s ∷ [])
    ∙ ap (λ (t : Bool). filter says_something (take i (all_of file)) ++ cond t (s ∷ []) []) says

numbers_to : (file : List ℕ) (i : ℕ) (s : Record) (b : Bool) → i < length (lines_of file) → record_of (line_at (lines_of file) i) ≡ Some s → says_something s ≡ b
    → numbers_from 1 (take (i + 1) (all_of file)) ≡ numbers_from 1 (take i (all_of file)) ++ cond b ((i + 1) ∷ []) []
numbers_to file i s b h e says =
    let many : 1 + length (take i (all_of file)) ≡ i + 1 = omega (arith, length-take i (all_of file), length-map (lines_of file) read_line) in
    ap (numbers_from 1) (said_to file i s h e)
    ∙ numbers_push 1 (take i (all_of file)) s
    ∙ ap (λ (k : ℕ). numbers_from 1 (take i (all_of file)) ++ cond (says_something s) (k ∷ []) []) many
    ∙ ap (λ (t : Bool). numbers_from 1 (take i (all_of file)) ++ cond t ((i + 1) ∷ []) []) says

-- a line that says something
pub read_more : (file : List ℕ) (i : ℕ) (x : Line) (before after : Reading) → i < length (lines_of file) → record_of (line_at (lines_of file) i) ≡ Some (said x) → says_something (said x) ≡ true
    → IsReadTo file i before → after.records.items ≡ before.records.items ++ x ∷ [] → after.numbers.items ≡ before.numbers.items ++ (i + 1) ∷ []
    → ((other : Record) → is_seen after.seen other ≡ (is_seen before.seen other || is_second (said x) other)) → IsReadTo file (i + 1) after
read_more file i x before after h e says has records numbers seen = record {
  records = pushed ∙ ap (λ (l : List Record). l ++ said x ∷ []) has.records ∙ sym (kept_to file i (said x) true h e says);
  numbers = numbers ∙ ap (λ (l : List ℕ). l ++ (i + 1) ∷ []) has.numbers ∙ sym (numbers_to file i (said x) true h e says);
  seen = λ other. seen other
      ∙ ap (λ (b : Bool). b || is_second (said x) other) (has.seen other)
      ∙ ap (λ (b : Bool). list_any (λ s. is_second s other) (map said before.records.items) || b) (sym (or-false (is_second (said x) other)))
      ∙ sym (list_any-append (λ s. is_second s other) (map said before.records.items) (said x ∷ []))
      ∙ ap (λ (ss : List Record). list_any (λ s. is_second s other) ss) (sym pushed);
}
  where
    pushed : map said after.records.items ≡ map said before.records.items ++ said x ∷ []
    pushed = ap (map said) records ∙ map-append said before.records.items (x ∷ [])

-- a line that says nothing
pub read_past : (file : List ℕ) (i : ℕ) (s : Record) (reading : Reading) → i < length (lines_of file) → record_of (line_at (lines_of file) i) ≡ Some s → says_something s ≡ false
    → IsReadTo file i reading → IsReadTo file (i + 1) reading
read_past file i s reading h e says has = record {
  records = has.records ∙ sym (kept_to file i s false h e says ∙ append-nil (filter says_something (take i (all_of file))));
  numbers = has.numbers ∙ sym (numbers_to file i s false h e says ∙ append-nil (numbers_from 1 (take i (all_of file))));
  seen = has.seen;
}

-- the record that line i says, and those before it
pub record IsPlaced (file : List ℕ) (i j : ℕ) (s : Record) : Type 0 where
  pub here : record_at (records_of file) j ≡ s
  pub before : take j (records_of file) ≡ filter says_something (take i (all_of file))
  pub says : says_something s ≡ true

placed : (file : List ℕ) (i j : ℕ) (s : Record) → i < length (lines_of file) → record_of (line_at (lines_of file) i) ≡ Some s → slice_get (numbers_of file) j ≡ Some i → IsPlaced file i j s
placed file i j s h e at =
    let w = numbered 0 (all_of file) j i at in
    let same : w.index ≡ i = omega (arith, w.is) in
    let read : get_or (all_of file) w.index nothing ≡ s = ap (λ (k : ℕ). get_or (all_of file) k nothing) same ∙ said_at file i s h e in
    record {
      here = ap (λ (o : Option Record). unwrap_or o nothing) w.here ∙ read;
      before = w.before ∙ ap (λ (k : ℕ). filter says_something (take k (all_of file))) same;
      says = ap says_something (sym read) ∙ w.says;
    }

-- whether an earlier line was for the thing of line i
seen_before : (file : List ℕ) (i j : ℕ) (s : Record) (reading : Reading) → IsPlaced file i j s → IsReadTo file i reading
    → list_any (λ t. is_second t (record_at (records_of file) j)) (take j (records_of file)) ≡ is_seen reading.seen s
seen_before file i j s reading index has =
    ap (λ (t : Record). list_any (λ r. is_second r t) (take j (records_of file))) index.here
    ∙ ap (λ (l : List Record). list_any (λ r. is_second r s) l) (index.before ∙ sym has.records)
    ∙ sym (has.seen s)

-- it was: line i breaks V14
pub breaks_again : (limits : Limits) (file : List ℕ) (i : ℕ) (s : Record) (reading : Reading) → i < length (lines_of file) → record_of (line_at (lines_of file) i) ≡ Some s → says_something s ≡ true
    → (PassesSize limits.bytes file i → ⊥) → IsReadTo file i reading → is_seen reading.seen s ≡ true → Breaks limits V14 file i
breaks_again limits file i s reading h e says fits has again =
    let within : i < length (all_of file) = omega (arith, length-map (lines_of file) read_line) in
    let at : slice_get (numbers_of file) (length (filter says_something (take i (all_of file)))) ≡ Some i =
    number_here 0 (all_of file) i within (ap says_something (said_at file i s h e) ∙ says) ∙ ap Some (omega arith) in
    (fits, (length (filter says_something (take i (all_of file))), at, seen_before file i _ s reading (placed file i _ s h e at) has ∙ again))

-- it wasn't, or the line says nothing
pub not_again : (limits : Limits) (file : List ℕ) (i : ℕ) (s : Record) (reading : Reading) → i < length (lines_of file) → record_of (line_at (lines_of file) i) ≡ Some s
    → IsReadTo file i reading → (says_something s ≡ true → is_seen reading.seen s ≡ false) → Breaks limits V14 file i → ⊥
not_again limits file i s reading h e has fresh breaks =
    let offends : OffendsIn limits V14 file i = breaks.1 in
    let index = placed file i offends.0 s h e offends.1 in
    let clash : true ≡ false = sym offends.2 ∙ seen_before file i offends.0 s reading index has ∙ fresh index.says in cc

-- line i is in the grammar
pub not_outside : (limits : Limits) (file : List ℕ) (i : ℕ) (s : Record) → record_of (line_at (lines_of file) i) ≡ Some s → (PassesSize limits.bytes file i → ⊥) → Breaks limits Grammar file i → ⊥
not_outside limits file i s e fits breaks =
    ⊎_elim (λ (outside : IsOutside (lines_of file) i). let clash : Some s ≡ None = sym e ∙ outside in cc) fits breaks

-- one sound line more
sound_here : (limits : Limits) (file : List ℕ) (i : ℕ) → (Breaks limits Grammar file i → ⊥) → (Breaks limits V14 file i → ⊥) → (rule : Rule) → rank rule ≡ 0 → Breaks limits rule file i → ⊥
sound_here limits file i inside apart Grammar ranked breaks = inside breaks
sound_here limits file i inside apart V14 ranked breaks = apart breaks
sound_here limits file i inside apart rule ranked breaks = absurd (omega arith)

pub sound_more : (limits : Limits) (file : List ℕ) (i : ℕ) → AreSound limits file i → (Breaks limits Grammar file i → ⊥) → (Breaks limits V14 file i → ⊥) → AreSound limits file (i + 1)
sound_more limits file i sound inside apart rule k below ranked breaks =
    ⊎_elim (λ (less : k < i). sound rule k less ranked breaks)
    (λ (not_less : i ≤ k). let same : k ≡ i = omega arith in sound_here limits file i inside apart rule ranked (subst (Breaks limits rule file) same breaks))
    (cases_lt k i)

-- what line i was read as
pub line_said : (file : List ℕ) (i : ℕ) (line : List ℕ) (o : Option Line) (x : Line) → line ≡ line_at (lines_of file) i → option_map said o ≡ record_of line → o ≡ Some x
    → record_of (line_at (lines_of file) i) ≡ Some (said x)
line_said file i line o x e h is = ap record_of (sym e) ∙ sym h ∙ ap (λ (p : Option Line). option_map said p) is

pub line_outside : (file : List ℕ) (i : ℕ) (line : List ℕ) (o : Option Line) → line ≡ line_at (lines_of file) i → option_map said o ≡ record_of line → o ≡ None → IsOutside (lines_of file) i
line_outside file i line o e h is = ap record_of (sym e) ∙ sym h ∙ ap (λ (p : Option Line). option_map said p) is

-- the next line, and the others
pub record IsNext (lines : List (List ℕ)) (i : ℕ) (line : List ℕ) (rest : List (List ℕ)) : Type 0 where
  pub within : i < length lines
  pub here : line ≡ line_at lines i
  pub left : drop (i + 1) lines ≡ rest

next_of : (lines : List (List ℕ)) (i : ℕ) (line : List ℕ) (rest : List (List ℕ)) → drop i lines ≡ line ∷ rest → (i < length lines) × (line ≡ line_at lines i) × (drop (suc i) lines ≡ rest)
next_of [] zero line rest e = absurd (cc)
next_of (l ∷ lines) zero line rest e = (omega arith, cc, cc)
next_of [] (suc i) line rest e = absurd (cc)
next_of (l ∷ lines) (suc i) line rest e = let w = next_of lines i line rest e in (omega (arith, w.0), w.1, w.2)

pub next_line : (lines : List (List ℕ)) (i : ℕ) (bytes : List ℕ) (line : List ℕ) (left : List (List ℕ)) → drop i lines ≡ lines_of bytes → lines_of bytes ≡ line ∷ left → IsNext lines i line left
next_line lines i bytes line left e f =
    let w = next_of lines i line left (e ∙ f) in
    let next : i + 1 ≡ suc i = omega arith in
    record { within = w.0; here = w.1; left = ap (λ (k : ℕ). drop k lines) next ∙ w.2 }

-- no line is left
pub none_left : (lines : List (List ℕ)) (i : ℕ) → drop i lines ≡ [] → length lines ≤ i
none_left lines i e = omega (arith, ap length e, length-drop i lines)

-- The first fault of a file, from what its lines were found to break.
use Rattle.std.proofs.Common.{◌≡◌, ℕ, ◌+◌, ◌<◌, ◌≤◌, List, length, take, drop, map, count_by, get_or, ◌==◌, [], ◌∷◌, true, false, zero, suc, refl, sym, ap, ◌∙◌, subst, arith, inr, ⊎_elim, Option, Some, None, Bool, cond, take_all}
use Rattle.std.specs.Prelude.{filter, slice_get, All, MatchOption, OnOk, Result, Ok, Err}
use Rattle.std.proofs.lemmas.Bool.{cases_lt}
use Rattle.std.proofs.lemmas.Option.{slice_get_within, slice_get-get_or}
use Rattle.std.proofs.lemmas.List.{get_or_past, length-map, take-append-drop}
use Rattle.std.proofs.lemmas.List.Sums.{sum_by-append, count_by-le-length}
use Rattle.std.proofs.lemmas.List.Splits.{length-slice_split}
use Rattle.collate_lines.specs.declared.record.Record.{Record as Line}
use Rattle.collate_lines.specs.declared.limits.Limits.{Limits}
use Rattle.collate_lines.specs.declared.rule.Rule.{Rule}
use Rattle.collate_lines.specs.declared.rule.Rule.TheVariants.{Grammar, Limit, V14}
use Rattle.collate_lines.specs.declared.rule.RecordsError.{RecordsError}
use Rattle.collate_lines.specs.declared.rule.RecordsError.TheVariants.{Fault}
use Rattle.collate_lines.specs.Grammar.{record_of}
use Rattle.collate_lines.specs.Record.{Record, nothing, said}
use Rattle.collate_lines.specs.Repeats.{says_something}
use Rattle.collate_lines.specs.Lines.{lines_of, read_line, records_in, records_of, numbers_from, numbers_of, PassesSize, IsOutside}
use Rattle.collate_rules.specs.Rules.{Offends, OffendsWithin, rank}
use Rattle.collate_rules.specs.Offenders.{NoneOffends, NoneOffendsWithin, IsFirstOffender, IsFirstOffenderWithin}
use Rattle.collate_rules.specs.CanonicalParts.{IsShort}
use Rattle.collate_rules.proofs.offenders.ShortLineLemmas.{short_within}
use Rattle.collate_records.specs.declared.reader.Reading.{Reading}
use Rattle.collate_records.specs.Files.{Breaks, OffendsIn, IsAcceptedWithin, IsFirstFaultWithin, RefusesWithin}
use Rattle.collate_records.specs.Phases.{AreOfFile, AreSound, IsReadTo, KeepsBelow}
use Rattle.collate_records.proofs.reading.NumberedLemmas.{length-numbers, numbered, numbers_rise}
use Rattle.collate_records.proofs.reading.RankLemmas.{same_from_rank, rank_below}

-- past the last line there is nothing, which is in the grammar
outside_within : (lines : List (List ℕ)) (i : ℕ) → IsOutside lines i → i < length lines
outside_within lines i outside =
    ⊎_elim (λ (within : i < length lines). within)
    (λ (past : length lines ≤ i). let clash : Some nothing ≡ None = ap record_of (sym (get_or_past lines i [] past)) ∙ outside in cc)
    (cases_lt i (length lines))

-- a part of a list passes a test no more often
count_part : (p : ℕ → Bool) (n : ℕ) (bs : List ℕ) → count_by p (take n bs) ≤ count_by p bs
count_part p n bs =
    let e : count_by p bs ≡ count_by p (take n bs) + count_by p (drop n bs) =
    ap (count_by p) (sym (take-append-drop n bs)) ∙ sum_by-append (λ b. cond (p b) 1 0) (take n bs) (drop n bs) in
    omega arith

-- the line that passes the size is one of the lines
pub past_within : (limit : ℕ) (file : List ℕ) (i : ℕ) → PassesSize limit file i → i < length (lines_of file)
past_within limit file i past =
    omega (arith, past.1, count_part (λ b. b == 10) limit file, length-slice_split (λ b. b == 10) file)

-- a line of a file can be counted
pub number_small : (file : List ℕ) (i : ℕ) → i < length (lines_of file) → i ≤ length file
number_small file i within =
    omega (arith, length-slice_split (λ b. b == 10) file, count_by-le-length (λ b. b == 10) file)

-- the line that is looked for passes the size, and no other does
pub passes_here : (limit : ℕ) (file : List ℕ) (line : Option ℕ) (i : ℕ) → MatchOption line ((k : ℕ) → PassesSize limit file k → ⊥) (PassesSize limit file) → line ≡ Some i → PassesSize limit file i
passes_here limit file None i past e = absurd (cc)
passes_here limit file (Some p) i past e = let same : p ≡ i = cc in subst (PassesSize limit file) same past

pub passes_not : (limit : ℕ) (file : List ℕ) (line : Option ℕ) (i : ℕ) → MatchOption line ((k : ℕ) → PassesSize limit file k → ⊥) (PassesSize limit file) → (line ≡ Some i → ⊥) → PassesSize limit file i → ⊥
passes_not limit file None i past other passes = past i passes
passes_not limit file (Some p) i past other passes = let same : p ≡ i = past.1 ∙ sym passes.1 in other (ap Some same)

-- the first line that breaks a rule of rank 0
pub refuses_now : (limits : Limits) (file : List ℕ) (rule : Rule) (i : ℕ) (error : RecordsError) → error ≡ Fault (record { line = i + 1; rule = rule }) → rank rule ≡ 0 → Breaks limits rule file i → AreSound limits file i → RefusesWithin limits file error
refuses_now limits file rule i error e ranked breaks sound =
    subst (RefusesWithin limits file) (sym e) (
      i,
      refl,
      record {
        breaks = breaks;
        first = λ other k earlier again. ⊎_elim (λ (lower : rank other < rank rule). absurd (omega arith))
            (λ (same : (rank other ≡ rank rule) × (k < i)). sound other k same.1 (same.0 ∙ ranked) again) earlier;
      },
    )

-- where all lines were read, none breaks a rule of rank 0
breaks_within : (limits : Limits) (file : List ℕ) (rule : Rule) (i : ℕ) → rank rule ≡ 0 → Breaks limits rule file i → i < length (lines_of file)
breaks_within limits file Grammar i ranked breaks =
    ⊎_elim (λ (outside : IsOutside (lines_of file) i). outside_within (lines_of file) i outside) (past_within limits.bytes file i) breaks
breaks_within limits file V14 i ranked breaks =
    let w = numbered 0 (records_in (lines_of file)) breaks.1.0 i breaks.1.1 in omega (arith, w.is, w.within, length-map (lines_of file) read_line)
breaks_within limits file rule i ranked breaks = absurd (omega arith)

pub all_sound : (limits : Limits) (file : List ℕ) (i : ℕ) → length (lines_of file) ≤ i → AreSound limits file i → KeepsBelow limits 1 file
all_sound limits file i past sound rule k low breaks =
    let ranked : rank rule ≡ 0 = omega arith in sound rule k (omega (arith, breaks_within limits file rule k ranked breaks)) ranked breaks

pub none_read : (limits : Limits) (file : List ℕ) → AreSound limits file 0
none_read limits file rule k below ranked breaks = absurd (omega arith)

-- all lines were read
pub read_whole : (file : List ℕ) (i : ℕ) (reading : Reading) → length (lines_of file) ≤ i → IsReadTo file i reading → AreOfFile file (map said reading.records.items) reading.numbers.items
read_whole file i reading past has =
    let whole : take i (records_in (lines_of file)) ≡ records_in (lines_of file) = take_all i (records_in (lines_of file)) (omega (arith, length-map (lines_of file) read_line)) in
    record { same_records = has.records ∙ ap (filter says_something) whole; same_numbers = has.numbers ∙ ap (numbers_from 1) whole }

-- as many records as numbers
pub as_many : (file : List ℕ) → length (records_of file) ≡ length (numbers_of file)
as_many file = sym (length-numbers 0 (records_in (lines_of file)))

-- a breach of a rule from rank 1 on
offends_in : (limits : Limits) (file : List ℕ) (rule : Rule) (i : ℕ) → 0 < rank rule → Breaks limits rule file i → OffendsIn limits rule file i
offends_in limits file Grammar i ranked breaks = absurd (omega arith)
offends_in limits file V14 i ranked breaks = absurd (omega arith)
offends_in limits file rule i ranked breaks = breaks

breaks_in : (limits : Limits) (file : List ℕ) (rule : Rule) (i : ℕ) → 0 < rank rule → OffendsIn limits rule file i → Breaks limits rule file i
breaks_in limits file Grammar i ranked offends = absurd (omega arith)
breaks_in limits file V14 i ranked offends = absurd (omega arith)
breaks_in limits file rule i ranked offends = offends

-- no record offends against a rule
pub none_found : (limits : Limits) (file : List ℕ) (rule : Rule) → 0 < rank rule → NoneOffendsWithin limits rule (records_of file) → KeepsBelow limits (rank rule) file → KeepsBelow limits (rank rule + 1) file
none_found limits file rule ranked none keeps other i low breaks =
    ⊎_elim (λ (lower : rank other < rank rule). keeps other i lower breaks)
    (λ (from : rank rule ≤ rank other).
    let same : other ≡ rule = same_from_rank other rule (omega arith) (omega arith) in
    let offends = offends_in limits file rule i ranked (subst (λ (r : Rule). Breaks limits r file i) same breaks) in
    none offends.0 (omega (arith, as_many file, slice_get_within (numbers_of file) offends.0 i offends.1)) offends.2)
    (cases_lt (rank other) (rank rule))

-- the first record that offends against it
first_found_fault : (limits : Limits) (file : List ℕ) (rule : Rule) (j i : ℕ) → 0 < rank rule → slice_get (numbers_of file) j ≡ Some i → IsFirstOffenderWithin limits rule (records_of file) j → KeepsBelow limits (rank rule) file → IsFirstFaultWithin limits file rule i
first_found_fault limits file rule j i ranked at found keeps = record {
  breaks = breaks_in limits file rule i ranked (j, at, found.1);
  first = λ other k earlier again.
      ⊎_elim (λ (lower : rank other < rank rule). keeps other k lower again)
      (λ (same : (rank other ≡ rank rule) × (k < i)).
      let rule_same : other ≡ rule = same_from_rank other rule (omega arith) same.0 in
      let offends = offends_in limits file rule k ranked (subst (λ (r : Rule). Breaks limits r file k) rule_same again) in
      found.2 offends.0 (numbers_rise 0 (records_in (lines_of file)) offends.0 j k i offends.1 at same.1) offends.2)
      earlier;
}

-- numbers from 1 on are those from 0 on, each one more
number_shifted : (n : ℕ) (all : List Record) (j : ℕ) → j < length (numbers_from n all) → get_or (numbers_from (n + 1) all) j 0 ≡ get_or (numbers_from n all) j 0 + 1
number_shifted n [] j h = absurd (omega arith)
number_shifted n (r ∷ rs) j h = by (says_something r) j h (λ k within. number_shifted (n + 1) rs k within)
  where
    by : (b : Bool) (j : ℕ) → j < length (cond b (n ∷ numbers_from (n + 1) rs) (numbers_from (n + 1) rs))
        → ((k : ℕ) → k < length (numbers_from (n + 1) rs) → get_or (numbers_from (n + 1 + 1) rs) k 0 ≡ get_or (numbers_from (n + 1) rs) k 0 + 1)
        → get_or (cond b ((n + 1) ∷ numbers_from (n + 1 + 1) rs) (numbers_from (n + 1 + 1) rs)) j 0 ≡ get_or (cond b (n ∷ numbers_from (n + 1) rs) (numbers_from (n + 1) rs)) j 0 + 1
    by true zero h later = refl
    by true (suc k) h later = later k (omega arith)
    by false k h later = later k h

-- the number of a line of a file, from 1 on
line_number : (file : List ℕ) (numbers : List ℕ) (j : ℕ) → numbers ≡ numbers_from 1 (records_in (lines_of file)) → j < length numbers
    → (i : ℕ) × (get_or numbers j 0 ≡ i + 1) × (slice_get (numbers_of file) j ≡ Some i)
line_number file numbers j same within =
    let all = records_in (lines_of file) in
    let many : length numbers ≡ length (numbers_from 0 all) = ap length same ∙ length-numbers 1 all ∙ sym (length-numbers 0 all) in
    let lt : j < length (numbers_from 0 all) = omega arith in (
      get_or (numbers_from 0 all) j 0,
      ap (λ (l : List ℕ). get_or l j 0) same ∙ number_shifted 0 all j lt,
      slice_get-get_or (numbers_from 0 all) j 0 lt,
    )

pub refuses_first : (limits : Limits) (file : List ℕ) (rule : Rule) (numbers : List ℕ) (j : ℕ) (error : RecordsError) → numbers ≡ numbers_from 1 (records_in (lines_of file)) → j < length numbers → error ≡ Fault (record { line = get_or numbers j 0; rule = rule })
    → 0 < rank rule → IsFirstOffenderWithin limits rule (records_of file) j → KeepsBelow limits (rank rule) file → RefusesWithin limits file error
refuses_first limits file rule numbers j error same within e ranked found keeps =
    let w = line_number file numbers j same within in
    subst (RefusesWithin limits file) (sym e) (w.0, w.1, first_found_fault limits file rule j w.0 ranked w.2 found keeps)

-- a file that keeps all rules is accepted
pub accepted : (limits : Limits) (file : List ℕ) → KeepsBelow limits 26 file → IsAcceptedWithin limits file
accepted limits file keeps rule i breaks = keeps rule i (rank_below rule) breaks

-- the same of records that are those of the file
pub refuses_of : (limits : Limits) (file : List ℕ) (rule : Rule) (records : List Record) (numbers : List ℕ) (j : ℕ) (error : RecordsError) → AreOfFile file records numbers → j < length numbers → error ≡ Fault (record { line = get_or numbers j 0; rule = rule })
    → 0 < rank rule → IsFirstOffenderWithin limits rule records j → KeepsBelow limits (rank rule) file → RefusesWithin limits file error
refuses_of limits file rule records numbers j error of within e ranked found keeps =
    refuses_first limits file rule numbers j error of.same_numbers within e ranked (subst (λ (l : List Record). IsFirstOffenderWithin limits rule l j) of.same_records found) keeps

pub none_of : (limits : Limits) (file : List ℕ) (rule : Rule) (records : List Record) (numbers : List ℕ) → AreOfFile file records numbers → 0 < rank rule → NoneOffendsWithin limits rule records → KeepsBelow limits (rank rule) file → KeepsBelow limits (rank rule + 1) file
none_of limits file rule records numbers of ranked none keeps = none_found limits file rule ranked (subst (NoneOffendsWithin limits rule) of.same_records none) keeps

-- rules after the limits know no limits
same_offences : (limits : Limits) (rule : Rule) (records : List Record) (i : ℕ) → 1 < rank rule → (Offends rule records i → OffendsWithin limits rule records i) × (OffendsWithin limits rule records i → Offends rule records i)
same_offences limits Limit records i behind = absurd (omega arith)
same_offences limits rule records i behind = (λ offends. offends, λ offends. offends)

pub found_within : (limits : Limits) (rule : Rule) (records : List Record) (found : Option ℕ) → 1 < rank rule → MatchOption found (NoneOffends rule records) (IsFirstOffender rule records)
    → MatchOption found (NoneOffendsWithin limits rule records) (IsFirstOffenderWithin limits rule records)
found_within limits rule records None behind none = λ i lt offends. none i lt ((same_offences limits rule records i behind).1 offends)
found_within limits rule records (Some i) behind first =
    (first.0, (same_offences limits rule records i behind).0 first.1, λ j below offends. first.2 j below ((same_offences limits rule records j behind).1 offends))

-- lines within limits have short compatibility mappings
pub short_on_ok : (limits : Limits) (records : List Record) (found : Option ℕ) (answer : Result (Unit {0}) RecordsError)
    → MatchOption found (NoneOffendsWithin limits Limit records) (IsFirstOffenderWithin limits Limit records) → OnOk answer (found ≡ None) → OnOk answer (All IsShort records)
short_on_ok limits records found (Ok done) asked none = by found asked none
  where
    by : (o : Option ℕ) → MatchOption o (NoneOffendsWithin limits Limit records) (IsFirstOffenderWithin limits Limit records) → o ≡ None → All IsShort records
    by None within e = short_within records (λ i lt large. within i lt (inr (inr large)))
    by (Some i) first e = absurd (cc)
short_on_ok limits records found (Err error) asked none = tt

-- the records that were read are as many as their numbers
pub many_read : (file : List ℕ) (records : List Record) (numbers : List ℕ) → AreOfFile file records numbers → length records ≡ length numbers
many_read file records numbers of =
    ap length of.same_records ∙ sym (length-numbers 1 (records_in (lines_of file))) ∙ sym (ap length of.same_numbers)

pub of_read : (file : List ℕ) (lines others : List Line) (numbers more : List ℕ) → others ≡ lines → more ≡ numbers → AreOfFile file (map said lines) numbers → AreOfFile file (map said others) more
of_read file lines others numbers more e f of = record { same_records = ap (map said) e ∙ of.same_records; same_numbers = f ∙ of.same_numbers }

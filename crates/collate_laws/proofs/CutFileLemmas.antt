-- A file that is cut after the first byte past its most bytes is read as the whole file is.
use Rattle.std.proofs.Common.{◌≡◌, ℕ, zero, suc, ◌+◌, ◌<◌, ◌≤◌, ◌↔◌, ◌==◌, Bool, true, false, cond, inl, inr, ⊎_elim, Option, Some, Result, Ok, Err, List, [], ◌∷◌, ◌++◌, length, take, drop, count_by, refl, sym, ap, subst, ◌∙◌, arith}
use Rattle.std.specs.Prelude.{slice_get, slice_index_or}
use Rattle.std.specs.List.{filter, list_any, onto_first, slice_split}
use Rattle.std.specs.Option.{unwrap_or}
use Rattle.std.proofs.lemmas.Bool.{cases_lt}
use Rattle.std.proofs.lemmas.List.{length-take, take-append-drop, take-take, take_all}
use Rattle.std.proofs.lemmas.List.Sums.{sum_by-cons}
use Rattle.collate_lines.specs.declared.limits.Limits.{Limits}
use Rattle.collate_lines.specs.declared.rule.Rule.{Rule}
use Rattle.collate_lines.specs.declared.rule.Rule.TheVariants.{Grammar, V14}
use Rattle.collate_lines.specs.declared.rule.RecordsError.{RecordsError}
use Rattle.collate_lines.specs.declared.rule.RecordsError.TheVariants.{Fault, Memory}
use Rattle.collate_lines.specs.Grammar.{record_of}
use Rattle.collate_lines.specs.Lines.{PassesSize, lines_of, numbers_from, read_line, records_in, records_of}
use Rattle.collate_lines.specs.Record.{Record, nothing}
use Rattle.collate_lines.specs.Repeats.{is_second, record_at, says_something}
use Rattle.collate_rules.specs.Rules.{rank}
use Rattle.collate_records.specs.Files.{Breaks, FileRecords, IsEarlier, IsFirstFaultWithin, IsReadWithin, OffendsIn}

-- ## Lists that begin alike

module _ {X : Type 0} where
  pub index_alike : (q k : ℕ) (xs ys : List X) (d : X) → take q xs ≡ take q ys → k < q → slice_index_or xs k d ≡ slice_index_or ys k d
  index_alike zero k xs ys d same below = absurd (omega arith)
  index_alike (suc q) k [] [] d same below = refl
  index_alike (suc q) k [] (y ∷ ys) d same below = absurd (cc)
  index_alike (suc q) k (x ∷ xs) [] d same below = absurd (cc)
  index_alike (suc q) zero (x ∷ xs) (y ∷ ys) d same below = cc
  index_alike (suc q) (suc k) (x ∷ xs) (y ∷ ys) d same below = index_alike q k xs ys d (cc) (omega arith)

  first_alike : (x : X) (q : ℕ) (ps qs : List (List X)) → take q ps ≡ take q qs → take q (onto_first x ps) ≡ take q (onto_first x qs)
  first_alike x zero ps qs same = refl
  first_alike x (suc q) [] [] same = refl
  first_alike x (suc q) [] (part ∷ parts) same = absurd (cc)
  first_alike x (suc q) (part ∷ parts) [] same = absurd (cc)
  first_alike x (suc q) (part ∷ parts) (other ∷ others) same = cc

  -- the parts that end within a text are those of each text that begins with it
  parts_before : (p : X → Bool) (text rest : List X) (q : ℕ) → q ≤ count_by p text
      → take q (slice_split p (text ++ rest)) ≡ take q (slice_split p text)
  parts_before p text rest zero few = refl
  parts_before p [] rest (suc q) few = absurd (omega arith)
  parts_before p (x ∷ xs) rest (suc q) few = by (λ m. parts_before p xs rest m) (p x) refl
    where
      one : X → ℕ
      one y = cond (p y) 1 0

      by : ((m : ℕ) → m ≤ count_by p xs → take m (slice_split p (xs ++ rest)) ≡ take m (slice_split p xs))
          → (ends : Bool) → p x ≡ ends → take (suc q) (slice_split p ((x ∷ xs) ++ rest)) ≡ take (suc q) (slice_split p (x ∷ xs))
      by behind true ends =
          let left : q ≤ count_by p xs = omega (arith, few, sum_by-cons one x xs, ap (λ (b : Bool). let n : ℕ = cond b 1 0 in n) ends) in
          rw ends (ap (λ (parts : List (List X)). [] ∷ parts) (behind q left))
      by behind false ends =
          let left : suc q ≤ count_by p xs = omega (arith, few, sum_by-cons one x xs, ap (λ (b : Bool). let n : ℕ = cond b 1 0 in n) ends) in
          rw ends (first_alike x (suc q) (slice_split p (xs ++ rest)) (slice_split p xs) (behind (suc q) left))

-- ## Records of lines that begin alike

-- numbers count from the first
no_less : (n : ℕ) (rs : List Record) (j k : ℕ) → slice_get (numbers_from n rs) j ≡ Some k → n ≤ k
no_less n [] j k there = absurd (cc)
no_less n (r ∷ rs) j k there = by (λ i found. no_less (n + 1) rs i k found) (says_something r) refl j there
  where
    by : ((i : ℕ) → slice_get (numbers_from (n + 1) rs) i ≡ Some k → n + 1 ≤ k)
        → (says : Bool) → says_something r ≡ says → (i : ℕ) → slice_get (numbers_from n (r ∷ rs)) i ≡ Some k → n ≤ k
    by behind false says i found =
        let later : n + 1 ≤ k = behind i (subst (λ (b : Bool). slice_get (cond b (n ∷ numbers_from (n + 1) rs) (numbers_from (n + 1) rs)) i ≡ Some k) says found) in omega arith
    by behind true says zero found =
        let here : Some n ≡ Some k = subst (λ (b : Bool). slice_get (cond b (n ∷ numbers_from (n + 1) rs) (numbers_from (n + 1) rs)) zero ≡ Some k) says found in
        let same : n ≡ k = cc in omega arith
    by behind true says (suc i) found =
        let later : n + 1 ≤ k = behind i (subst (λ (b : Bool). slice_get (cond b (n ∷ numbers_from (n + 1) rs) (numbers_from (n + 1) rs)) (suc i) ≡ Some k) says found) in omega arith

-- a record of the other lines has the same number, says the same, and stands after the same records
pub record IsThere (n : ℕ) (rs others : List Record) (j k : ℕ) : Type 0 where
  pub number : slice_get (numbers_from n others) j ≡ Some k
  pub says : slice_get (filter says_something rs) j ≡ slice_get (filter says_something others) j
  pub before : take j (filter says_something rs) ≡ take j (filter says_something others)

module _ (n : ℕ) (r s : Record) (rs others : List Record) (k : ℕ) where
  abbrev numbered : Bool → List Record → List ℕ
  numbered says more = cond says (n ∷ numbers_from (n + 1) more) (numbers_from (n + 1) more)

  abbrev said_of : Bool → Record → List Record → List Record
  said_of says one more = cond says (one ∷ filter says_something more) (filter says_something more)

  -- after a line that says nothing
  passed : {i : ℕ} → says_something s ≡ false → says_something r ≡ false → IsThere (n + 1) rs others i k → IsThere n (r ∷ rs) (s ∷ others) i k
  passed {i} second first further = record {
    number = ap (λ (b : Bool). slice_get (numbered b others) i) second ∙ further.number;
    says = ap (λ (b : Bool). slice_get (said_of b r rs) i) first ∙ further.says ∙ sym (ap (λ (b : Bool). slice_get (said_of b s others) i) second);
    before = ap (λ (b : Bool). take i (said_of b r rs)) first ∙ further.before ∙ sym (ap (λ (b : Bool). take i (said_of b s others)) second);
  }

  -- at a line that says something
  begun : says_something s ≡ true → says_something r ≡ true → Some n ≡ Some k → r ≡ s → IsThere n (r ∷ rs) (s ∷ others) zero k
  begun second first here alike = record {
    number = ap (λ (b : Bool). slice_get (numbered b others) zero) second ∙ here;
    says =
        ap (λ (b : Bool). slice_get (said_of b r rs) zero) first ∙ ap (λ (one : Record). Some one) alike
        ∙ sym (ap (λ (b : Bool). slice_get (said_of b s others) zero) second);
    before = refl;
  }

  -- and after it
  kept : {i : ℕ} → says_something s ≡ true → says_something r ≡ true → IsThere (n + 1) rs others i k → r ≡ s → IsThere n (r ∷ rs) (s ∷ others) (suc i) k
  kept {i} second first further alike = record {
    number = ap (λ (b : Bool). slice_get (numbered b others) (suc i)) second ∙ further.number;
    says =
        ap (λ (b : Bool). slice_get (said_of b r rs) (suc i)) first ∙ further.says
        ∙ sym (ap (λ (b : Bool). slice_get (said_of b s others) (suc i)) second);
    before =
        ap (λ (b : Bool). take (suc i) (said_of b r rs)) first
        ∙ ap (λ (one : Record). one ∷ take i (filter says_something rs)) alike
        ∙ ap (λ (more : List Record). s ∷ more) further.before
        ∙ sym (ap (λ (b : Bool). take (suc i) (said_of b s others)) second);
  }

record_there : (q n : ℕ) (rs others : List Record) (j k : ℕ) → take q rs ≡ take q others → k < n + q
    → slice_get (numbers_from n rs) j ≡ Some k → IsThere n rs others j k
record_there zero n rs others j k same below there = absurd (let least = no_less n rs j k there in omega arith)
record_there (suc q) n [] others j k same below there = absurd (cc)
record_there (suc q) n (r ∷ rs) [] j k same below there = absurd (cc)
record_there (suc q) n (r ∷ rs) (s ∷ others) j k same below there =
    by (λ i found. record_there q (n + 1) rs others i k later (omega arith) found) (says_something r) refl j there
  where
    alike : r ≡ s
    alike = cc

    later : take q rs ≡ take q others
    later = cc

    told : (says : Bool) → says_something r ≡ says → says_something s ≡ says
    told says e = ap says_something (sym alike) ∙ e

    by : ((i : ℕ) → slice_get (numbers_from (n + 1) rs) i ≡ Some k → IsThere (n + 1) rs others i k)
        → (says : Bool) → says_something r ≡ says → (i : ℕ) → slice_get (numbers_from n (r ∷ rs)) i ≡ Some k → IsThere n (r ∷ rs) (s ∷ others) i k
    by behind false e i found =
        let further = behind i (subst (λ (b : Bool). slice_get (cond b (n ∷ numbers_from (n + 1) rs) (numbers_from (n + 1) rs)) i ≡ Some k) e found) in
        passed n r s rs others k (told false e) e further
    by behind true e zero found =
        let here : Some n ≡ Some k = subst (λ (b : Bool). slice_get (cond b (n ∷ numbers_from (n + 1) rs) (numbers_from (n + 1) rs)) zero ≡ Some k) e found in
        begun n r s rs others k (told true e) e here alike
    by behind true e (suc i) found =
        let further = behind i (subst (λ (b : Bool). slice_get (cond b (n ∷ numbers_from (n + 1) rs) (numbers_from (n + 1) rs)) (suc i) ≡ Some k) e found) in
        kept n r s rs others k (told true e) e further alike

-- ## Files that are cut alike

-- both files pass the size at one line, and the lines before that are the same
pub record AreCutAlike (limits : Limits) (a b : List ℕ) (p : ℕ) : Type 0 where
  pub past : PassesSize limits.bytes a p
  pub also : PassesSize limits.bytes b p
  pub lines : take p (lines_of a) ≡ take p (lines_of b)

turned : (limits : Limits) (a b : List ℕ) (p : ℕ) → AreCutAlike limits a b p → AreCutAlike limits b a p
turned limits a b p alike = record { past = alike.also; also = alike.past; lines = sym alike.lines }

-- what is read of lines that begin alike begins alike
read_alike : (q : ℕ) (ls ms : List (List ℕ)) → take q ls ≡ take q ms → take q (records_in ls) ≡ take q (records_in ms)
read_alike zero ls ms same = refl
read_alike (suc q) [] [] same = refl
read_alike (suc q) [] (m ∷ ms) same = absurd (cc)
read_alike (suc q) (l ∷ ls) [] same = absurd (cc)
read_alike (suc q) (l ∷ ls) (m ∷ ms) same =
    let first : l ≡ m = cc in
    let later : take q ls ≡ take q ms = cc in
    cc (ap read_line first, read_alike q ls ms later)

module _ (limits : Limits) (a b : List ℕ) (p : ℕ) (alike : AreCutAlike limits a b p) where
  no_past : (k : ℕ) → k < p → PassesSize limits.bytes b k → ⊥
  no_past k before past = let one = past.1 in let other = alike.also.1 in omega arith

  repeats_there : (k : ℕ) → k < p → OffendsIn limits V14 a k → OffendsIn limits V14 b k
  repeats_there k before offends =
      let j = offends.0 in
      let there = record_there p 0 (records_in (lines_of a)) (records_in (lines_of b)) j k (read_alike p (lines_of a) (lines_of b) alike.lines) (omega arith) offends.1 in
      let says : record_at (records_of a) j ≡ record_at (records_of b) j = ap (λ (o : Option Record). unwrap_or o nothing) there.says in
      let here : list_any (λ s. is_second s (record_at (records_of b) j)) (take j (records_of b)) ≡ true =
      ap (λ (rs : List Record). list_any (λ s. is_second s (record_at (records_of b) j)) rs) (sym there.before)
      ∙ ap (λ (r : Record). list_any (λ s. is_second s r) (take j (records_of a))) (sym says)
      ∙ offends.2 in
      (j, there.number, here)

  -- a breach before that line
  breach_there : (rule : Rule) (k : ℕ) → rank rule ≡ 0 → k < p → Breaks limits rule a k → Breaks limits rule b k
  breach_there Grammar k first before (inl outside) =
      inl (ap record_of (sym (index_alike p k (lines_of a) (lines_of b) [] alike.lines before)) ∙ outside)
  breach_there Grammar k first before (inr past) = absurd (let one = past.1 in let other = alike.past.1 in omega arith)
  breach_there V14 k first before breaks = (no_past k before, repeats_there k before breaks.1)
  breach_there rule k first before breaks = absurd (omega arith)

  -- a breach at that line
  breach_here : (rule : Rule) → rank rule ≡ 0 → Breaks limits rule a p → Breaks limits rule b p
  breach_here Grammar first breaks = inr alike.also
  breach_here V14 first breaks = absurd (breaks.0 alike.past)
  breach_here rule first breaks = absurd (omega arith)

fault_there : (limits : Limits) (a b : List ℕ) (p : ℕ) → AreCutAlike limits a b p → (rule : Rule) (i : ℕ)
    → IsFirstFaultWithin limits a rule i → IsFirstFaultWithin limits b rule i
fault_there limits a b p alike rule i fault =
    let none : IsEarlier Grammar p rule i → ⊥ = λ earlier. fault.first Grammar p earlier (inr alike.past) in
    let ranked : rank rule ≡ 0 = ⊎_elim (λ (lower : 0 < rank rule). absurd (none (inl lower))) (λ (least : rank rule ≤ 0). omega arith) (cases_lt 0 (rank rule)) in
    let within : i ≤ p = ⊎_elim (λ (behind : p < i). absurd (none (inr (sym ranked, behind)))) (λ (within : i ≤ p). within) (cases_lt p i) in
    record {
      breaks =
          ⊎_elim (λ (before : i < p). breach_there limits a b p alike rule i ranked before fault.breaks)
          (λ (last : p ≤ i).
          let here : p ≡ i = omega arith in
          subst (λ (k : ℕ). Breaks limits rule b k) here
          (breach_here limits a b p alike rule ranked (subst (λ (k : ℕ). Breaks limits rule a k) (sym here) fault.breaks)))
          (cases_lt i p);
      first = λ other k earlier again.
          ⊎_elim (λ (lower : rank other < rank rule). absurd (omega arith))
          (λ (same : (rank other ≡ rank rule) × (k < i)).
          let sooner = same.1 in
          fault.first other k earlier
          (breach_there limits b a p (turned limits a b p alike) other k (same.0 ∙ ranked) (omega (arith, sooner, within)) again))
          earlier;
    }

read_there : (limits : Limits) (a b : List ℕ) (p : ℕ) → AreCutAlike limits a b p → (result : Result FileRecords RecordsError)
    → IsReadWithin limits a result → IsReadWithin limits b result
read_there limits a b p alike (Ok records) read = absurd (read.0 Grammar p (inr alike.past))
read_there limits a b p alike (Err (Fault fault)) (i, line, first) = (i, line, fault_there limits a b p alike fault.rule i first)
read_there limits a b p alike (Err Memory) read = tt

-- ## A file and its first bytes

module _ (limits : Limits) (file : List ℕ) where
  abbrev n : ℕ
  n = limits.bytes

  abbrev cut : List ℕ
  cut = take (n + 1) file

  abbrev text : List ℕ
  text = take n file

  cut_alike : n < length file → AreCutAlike limits cut file (count_by (λ b. b == 10) (take n file))
  cut_alike long =
      let front : take n cut ≡ text = take-take n (n + 1) file (omega arith) in
      let length_is = length-take (n + 1) file in
      let whole : lines_of file ≡ lines_of (text ++ drop n file) = ap lines_of (sym (take-append-drop n file)) in
      let first : lines_of cut ≡ lines_of (text ++ drop n cut) =
      ap lines_of (sym (take-append-drop n cut)) ∙ ap (λ (xs : List ℕ). lines_of (xs ++ drop n cut)) front in
      let p = count_by (λ b. b == 10) text in
      record {
        past = (omega (arith, length_is, long), ap (λ (xs : List ℕ). count_by (λ b. b == 10) xs) (sym front));
        also = (long, refl);
        lines =
            ap (take p) first
            ∙ parts_before (λ b. b == 10) text (drop n cut) p (omega arith)
            ∙ sym (parts_before (λ b. b == 10) text (drop n file) p (omega arith))
            ∙ ap (take p) (sym whole);
      }

  pub cut_read : (result : Result FileRecords RecordsError) → IsReadWithin limits cut result ↔ IsReadWithin limits file result
  cut_read result =
      ⊎_elim
      (λ (long : n < length file).
      let alike = cut_alike long in (
        read_there limits cut file (count_by (λ b. b == 10) (take n file)) alike result,
        read_there limits file cut (count_by (λ b. b == 10) (take n file)) (turned limits cut file (count_by (λ b. b == 10) (take n file)) alike) result,
      ))
      (λ (short : length file ≤ n).
      let same : cut ≡ file = take_all (n + 1) file (omega (arith, short)) in (
        subst (λ (xs : List ℕ). IsReadWithin limits xs result) same,
        subst (λ (xs : List ℕ). IsReadWithin limits xs result) (sym same),
      ))
      (cases_lt n (length file))

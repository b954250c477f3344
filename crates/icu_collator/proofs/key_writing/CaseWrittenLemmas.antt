-- Half bytes in pairs, as a loop writes them, and that those of cases are half bytes.
use Rattle.std.proofs.Common.{◌≡◌, ℕ, zero, suc, ◌<◌, ◌≤◌, ◌+◌, ◌*◌, ◌/◌, Bool, true, false, cond, ◌==◌, List, [], ◌∷◌, ◌++◌, All, length, drop, get_or, sym, ◌∙◌, ap, arith, append_assoc, append-nil}
use Rattle.std.proofs.lemmas.List.{drop_more, drop_all}
use Rattle.std.proofs.lemmas.List.Elements.{All-append, All-cons, All-nil, All-replicate, recursion_from_All}
use Rattle.std.proofs.lemmas.Nat.{mod_below}
use Rattle.std.specs.List.{list_all, AllByRecursion}
use Rattle.icu_collator.specs.KeyBytes.{RunCode, paired_halves, run_bytes, behind_run, lower_case_code, upper_case_code}
use Rattle.icu_collator.specs.KeyCodes.{halves_of}
use Rattle.icu_collator.proofs.keys.CodesLemmas.{three_ways}
use Rattle.icu_collator.proofs.keys.RunCodeLemmas.{goes_lower, goes_common, goes_higher}

-- ---- pairs

pub pair_written :
    (halves : List ℕ) (i : ℕ) (whole before after : List ℕ) → i + 1 < length halves → before ++ paired_halves (drop i halves) ≡ whole
    → after ≡ before ++ (get_or halves i 0 * 16 + get_or halves (i + 1) 0) ∷ [] → after ++ paired_halves (drop (i + 2) halves) ≡ whole
unfolding paired_halves
pair_written halves i whole before after inside so_far written =
    let a = get_or halves i 0 in
    let b = get_or halves (i + 1) 0 in
    let two : drop i halves ≡ a ∷ b ∷ drop (i + 1 + 1) halves =
    drop_more halves i 0 (omega (arith, inside)) ∙ ap (λ l. a ∷ l) (drop_more halves (i + 1) 0 inside) in
    let index : i + 1 + 1 ≡ i + 2 = omega arith in
    ap (λ l. l ++ paired_halves (drop (i + 2) halves)) written
    ∙ append_assoc before ((a * 16 + b) ∷ []) (paired_halves (drop (i + 2) halves))
    ∙ sym (ap (λ l. before ++ paired_halves l) (two ∙ ap (λ n. a ∷ b ∷ drop n halves) index)) ∙ so_far

pub half_written :
    (halves : List ℕ) (i : ℕ) (whole before after : List ℕ) → i + 1 ≡ length halves → before ++ paired_halves (drop i halves) ≡ whole
    → after ≡ before ++ get_or halves i 0 * 16 ∷ [] → after ≡ whole
unfolding paired_halves
half_written halves i whole before after last so_far written =
    let a = get_or halves i 0 in
    let one : drop i halves ≡ a ∷ [] =
    drop_more halves i 0 (omega (arith, last)) ∙ ap (λ l. a ∷ l) (drop_all (i + 1) halves (omega (arith, last))) in
    written ∙ sym (ap (λ l. before ++ paired_halves l) one) ∙ so_far

pub pairs_end : (halves : List ℕ) (i : ℕ) (whole before : List ℕ) → length halves ≤ i → before ++ paired_halves (drop i halves) ≡ whole → before ≡ whole
unfolding paired_halves
pairs_end halves i whole before past so_far =
    sym (append-nil before) ∙ sym (ap (λ l. before ++ paired_halves l) (drop_all i halves past)) ∙ so_far

-- ---- half bytes

abbrev IsHalf : ℕ → Type 0
IsHalf half = half < 16

-- a code's runs, and its weights but the common one, are half bytes; what ranks above the common one isn't asked where it has none
record HasHalves (code : RunCode ℕ) (IsOne : ℕ → Type 0) : Type 0 where
  some : 0 < code.most
  middle : code.middle < 16
  low : code.low + code.most ≤ 16
  weight : (w : ℕ) → IsOne w → All IsHalf (code.bytes w)
  high : (w : ℕ) → IsOne w → code.common < code.rank w → code.high < 16

module _ (code : RunCode ℕ) (IsOne : ℕ → Type 0) (has : HasHalves code IsOne) where
  low_run : (n : ℕ) → All IsHalf (run_bytes code false n)
  unfolding run_bytes
  low_run zero = All-nil IsHalf
  low_run (suc n) =
      let within = mod_below n code.most has.some in
      let fits = has.low in
      All-append IsHalf _ _ (All-replicate IsHalf (n / code.most) code.middle has.middle) (All-cons IsHalf _ [] (omega (arith, within, fits)) (All-nil IsHalf))

  high_run : (n : ℕ) → code.high < 16 → All IsHalf (run_bytes code true n)
  unfolding run_bytes
  high_run zero small = All-nil IsHalf
  high_run (suc n) small =
      All-append IsHalf _ _ (All-replicate IsHalf (n / code.most) code.middle has.middle) (All-cons IsHalf _ [] (omega (arith, small)) (All-nil IsHalf))

  halves_behind : (n : ℕ) (ws : List ℕ) → AllByRecursion IsOne ws → All IsHalf (behind_run code n ws)
  unfolding behind_run
  halves_behind n [] ones = low_run n
  halves_behind n (w ∷ ws) ones =
      let later = All-append IsHalf (code.bytes w) (behind_run code 0 ws) (has.weight w ones.0) (halves_behind 0 ws ones.1) in
      three_ways (code.rank w) code.common
      (λ h. rw (goes_lower code n w ws h) (All-append IsHalf _ _ (low_run n) later))
      (λ h. rw (goes_common code n w ws h) (halves_behind (suc n) ws ones.1))
      (λ h. rw (goes_higher code n w ws h) (All-append IsHalf _ _ (high_run n (has.high w ones.0 h)) later))

abbrev IsCase : ℕ → Type 0
IsCase case = case ≤ 2

lower_has : HasHalves lower_case_code IsCase
lower_has =
    record {
      some = omega arith;
      middle = omega arith;
      low = omega arith;
      weight = λ w one. All-cons IsHalf _ [] (omega (arith, one)) (All-nil IsHalf);
      high = λ w one above. omega arith;
    }

upper_has : HasHalves upper_case_code IsCase
upper_has =
    record {
      some = omega arith;
      middle = omega arith;
      low = omega arith;
      weight = λ w one. All-cons IsHalf _ [] (omega (arith, one)) (All-nil IsHalf);
      high = λ w one above. let never : ⊥ = omega (arith, one, above) in absurd never;
    }

chosen : (b : Bool) (xs ys : List ℕ) → All IsHalf xs → All IsHalf ys → All IsHalf (cond b xs ys)
chosen true xs ys h k = h
chosen false xs ys h k = k

-- all halves of cases are half bytes
pub cases_have_halves : (is_upper_first : Bool) (cases : List ℕ) → All (λ case. case ≤ 2) cases → All (λ half. half < 16) (halves_of is_upper_first cases)
cases_have_halves is_upper_first cases all =
    let ones = recursion_from_All IsCase cases all in
    chosen is_upper_first _ _ (halves_behind upper_case_code IsCase upper_has 0 cases ones)
    (chosen (list_all (λ c. c == 0) cases) _ _ (All-nil IsHalf) (halves_behind lower_case_code IsCase lower_has 0 cases ones))

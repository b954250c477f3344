-- Pairs of digits by their indices, the bytes of the pairs that stay, and the elements of bytes by indices.
use Rattle.std.proofs.Common.{◌≡◌, ℕ, zero, suc, ◌+◌, ◌-◌, ◌*◌, ◌/◌, ◌%◌, ◌<◌, ◌≤◌, ◌==◌, ◌≢◌, List, [], ◌∷◌, ◌++◌, length, take, drop, get_or, refl, sym, ap, ◌∙◌, arith, append-nil, append_assoc, length-drop}
use Rattle.std.proofs.lemmas.Bool.{cond_both, eqb-true, eqb-false}
use Rattle.std.proofs.lemmas.List.{get_or-drop, drop_all, drop-drop, take_more, get_or-take, length-take-le}
use Rattle.icu_collator_types.specs.declared.elements.Element.{Element}
use Rattle.icu_collator_core.specs.Defaults.{primary_element, primary_of}
use Rattle.icu_collator_core.specs.NumberBytes.{evened, long_bytes}
use Rattle.icu_collator_core.specs.Numbers.{pairs_of, without_last_zeros, pair_bytes, elements_of_bytes, long_number}
use Rattle.icu_collator_core.proofs.numbers.DigitPairLemmas.{before_left}

-- ---- Pairs

two_on : (d e : ℕ) (ds : List ℕ) (k : ℕ) → get_or (d ∷ e ∷ ds) (2 * suc k) 0 ≡ get_or ds (2 * k) 0
two_on d e ds k = let next : 2 * suc k ≡ suc (suc (2 * k)) = omega arith in ap (λ n. get_or (d ∷ e ∷ ds) n 0) next

three_on : (d e : ℕ) (ds : List ℕ) (k : ℕ) → get_or (d ∷ e ∷ ds) (2 * suc k + 1) 0 ≡ get_or ds (2 * k + 1) 0
three_on d e ds k = let next : 2 * suc k + 1 ≡ suc (suc (2 * k + 1)) = omega arith in ap (λ n. get_or (d ∷ e ∷ ds) n 0) next

one_on : (d : ℕ) (k : ℕ) → get_or (d ∷ []) (2 * suc k) 0 ≡ 0
one_on d k = let next : 2 * suc k ≡ suc (suc (2 * k)) = omega arith in ap (λ n. get_or (d ∷ []) n 0) next

one_past : (d : ℕ) (k : ℕ) → get_or (d ∷ []) (2 * k + 1) 0 ≡ 0
one_past d k = let next : 2 * k + 1 ≡ suc (2 * k) = omega arith in ap (λ n. get_or (d ∷ []) n 0) next

pairs_at : (ds : List ℕ) (k : ℕ) → get_or (pairs_of ds) k 0 ≡ get_or ds (2 * k) 0 * 10 + get_or ds (2 * k + 1) 0
unfolding pairs_of
pairs_at [] k = refl
pairs_at (d ∷ []) zero = omega arith
pairs_at (d ∷ []) (suc k) = let first = one_on d k in let second = one_past d (suc k) in omega (arith, first, second)
pairs_at (d ∷ e ∷ ds) zero = refl
pairs_at (d ∷ e ∷ ds) (suc k) =
    let first = two_on d e ds k in let second = three_on d e ds k in let behind = pairs_at ds k in omega (arith, first, second, behind)

-- a pair by the digits that stand at its indices, of which the first may be a zero that was put before them
pub pair_is : (ds : List ℕ) (k second first : ℕ) → second + length ds % 2 ≡ 2 * k + 1 → (second ≡ 0 → first ≡ 0)
    → (0 < second → first ≡ get_or ds (second - 1) 0) → first * 10 + get_or ds second 0 ≡ get_or (pairs_of (evened ds)) k 0
unfolding evened
pair_is ds k second first index none some =
    cond_both (length ds % 2 == 0) ds (0 ∷ ds) (λ (w : List ℕ). first * 10 + get_or ds second 0 ≡ get_or (pairs_of w) k 0)
    (λ z. let even = eqb-true (length ds % 2) 0 z
    in let at : second ≡ 2 * k + 1 = omega arith
    in let before : second - 1 ≡ 2 * k = omega arith
    in let here = some (omega arith) ∙ ap (λ n. get_or ds n 0) before
    in let next = ap (λ n. get_or ds n 0) at
    in let pair = pairs_at ds k
    in omega (arith, here, next, pair))
    (λ z. let odd = eqb-false (length ds % 2) 0 z
    in let at : second ≡ 2 * k = omega arith
    in let here = before_first second first none some
    in let at_first = ap (λ n. get_or (0 ∷ ds) n 0) at
    in let next : get_or (0 ∷ ds) (2 * k + 1) 0 ≡ get_or ds second 0 = let on : 2 * k + 1 ≡ suc second = omega arith in ap (λ n. get_or (0 ∷ ds) n 0) on
    in let pair = pairs_at (0 ∷ ds) k
    in omega (arith, here, at_first, next, pair))
  where
    before_first : (second first : ℕ) → (second ≡ 0 → first ≡ 0) → (0 < second → first ≡ get_or ds (second - 1) 0) → first ≡ get_or (0 ∷ ds) second 0
    before_first zero first none some = none refl
    before_first (suc second) first none some =
        let e : suc second - 1 ≡ second = omega arith in some (omega arith) ∙ ap (λ n. get_or ds n 0) e

even_pairs : (ds : List ℕ) → length (pairs_of ds) ≡ (length ds + 1) / 2
unfolding pairs_of
even_pairs [] = omega arith
even_pairs (d ∷ []) = omega arith
even_pairs (d ∷ e ∷ ds) = let behind = even_pairs ds in omega (arith, behind)

pub pairs_length : (ds : List ℕ) → length (pairs_of (evened ds)) ≡ (length ds + 1) / 2
unfolding evened
pairs_length ds =
    cond_both (length ds % 2 == 0) ds (0 ∷ ds) (λ (w : List ℕ). length (pairs_of w) ≡ (length ds + 1) / 2)
    (λ z. even_pairs ds)
    (λ z. let odd = eqb-false (length ds % 2) 0 z in let count = even_pairs (0 ∷ ds) in omega (arith, odd, count))

-- ---- Pairs that stay

zero_goes : (ps : List ℕ) → without_last_zeros (ps ++ 0 ∷ []) ≡ without_last_zeros ps
unfolding without_last_zeros
zero_goes [] = refl
zero_goes (p ∷ ps) = ap (before_left p) (zero_goes ps)

stays_before : (p : ℕ) (ps : List ℕ) (q : ℕ) → before_left p (ps ++ q ∷ []) ≡ p ∷ (ps ++ q ∷ [])
stays_before p [] q = refl
stays_before p (x ∷ ps) q = refl

last_stays : (ps : List ℕ) (q : ℕ) → 0 < q → without_last_zeros (ps ++ q ∷ []) ≡ ps ++ q ∷ []
unfolding without_last_zeros
last_stays [] q h = cond_both (q == 0) [] (q ∷ []) (λ (w : List ℕ). w ≡ q ∷ []) (λ z. let zero = eqb-true q 0 z in absurd (omega arith)) (λ _. refl)
last_stays (p ∷ ps) q h = ap (before_left p) (last_stays ps q h) ∙ stays_before p ps q

-- of so many pairs the last goes, or all stay
pub pair_goes : (ps : List ℕ) (kept : ℕ) → 0 < kept → kept ≤ length ps → get_or ps (kept - 1) 0 ≡ 0
    → without_last_zeros (take (kept - 1) ps) ≡ without_last_zeros (take kept ps)
pair_goes ps kept some within none =
    let e : kept - 1 + 1 ≡ kept = omega arith
    in sym (zero_goes (take (kept - 1) ps))
    ∙ ap (λ p. without_last_zeros (take (kept - 1) ps ++ p ∷ [])) (sym none)
    ∙ ap without_last_zeros (sym (take_more ps (kept - 1) 0 (omega arith)))
    ∙ ap (λ n. without_last_zeros (take n ps)) e

pub pairs_stay : (ps : List ℕ) (kept : ℕ) → 0 < kept → kept ≤ length ps → get_or ps (kept - 1) 0 ≢ 0
    → take kept ps ≡ without_last_zeros (take kept ps)
pairs_stay ps kept some within filled =
    let e : kept - 1 + 1 ≡ kept = omega arith
    in let last = take_more ps (kept - 1) 0 (omega arith)
    in let all = ap (λ n. take n ps) (sym e) ∙ last
    in all ∙ sym (ap without_last_zeros all ∙ last_stays (take (kept - 1) ps) (get_or ps (kept - 1) 0) (omega arith))

pub none_stays : (ps : List ℕ) (kept : ℕ) → kept ≤ 0 → take kept ps ≡ without_last_zeros (take kept ps)
unfolding without_last_zeros
none_stays ps zero none = refl
none_stays ps (suc kept) none = absurd (omega arith)

-- ---- Bytes of pairs

byte_past : (ps : List ℕ) (k : ℕ) → length ps ≤ k → get_or (pair_bytes ps) k 0 ≡ 0
unfolding pair_bytes
byte_past [] k h = refl
byte_past (p ∷ []) zero h = absurd (omega arith)
byte_past (p ∷ []) (suc k) h = refl
byte_past (p ∷ q ∷ ps) zero h = absurd (omega arith)
byte_past (p ∷ q ∷ ps) (suc k) h = byte_past (q ∷ ps) k (omega arith)

byte_last : (ps : List ℕ) (k : ℕ) → suc k ≡ length ps → get_or (pair_bytes ps) k 0 ≡ 10 + 2 * get_or ps k 0
unfolding pair_bytes
byte_last [] k h = absurd (omega arith)
byte_last (p ∷ []) zero h = refl
byte_last (p ∷ []) (suc k) h = absurd (omega arith)
byte_last (p ∷ q ∷ ps) zero h = absurd (omega arith)
byte_last (p ∷ q ∷ ps) (suc k) h = byte_last (q ∷ ps) k (omega arith)

byte_before : (ps : List ℕ) (k : ℕ) → suc k < length ps → get_or (pair_bytes ps) k 0 ≡ 11 + 2 * get_or ps k 0
unfolding pair_bytes
byte_before [] k h = absurd (omega arith)
byte_before (p ∷ []) k h = absurd (omega arith)
byte_before (p ∷ q ∷ ps) zero h = refl
byte_before (p ∷ q ∷ ps) (suc k) h = byte_before (q ∷ ps) k (omega arith)

bytes_length : (ps : List ℕ) → length (pair_bytes ps) ≡ length ps
unfolding pair_bytes
bytes_length [] = refl
bytes_length (p ∷ []) = refl
bytes_length (p ∷ q ∷ ps) = let behind = bytes_length (q ∷ ps) in omega (arith, behind)

-- so many pairs of a number stay
pub record AreKept (ds : List ℕ) (kept : ℕ) : Type 0 where
  pub pairs : take kept (pairs_of (evened ds)) ≡ without_last_zeros (pairs_of (evened ds))
  pub within : kept ≤ (length ds + 1) / 2

kept_length : (ds : List ℕ) (kept : ℕ) → AreKept ds kept → length (without_last_zeros (pairs_of (evened ds))) ≡ kept
kept_length ds kept h =
    let count = pairs_length ds
    in let within = h.within
    in ap length (sym h.pairs) ∙ length-take-le kept (pairs_of (evened ds)) (omega (arith, count, within))

kept_at : (ds : List ℕ) (kept k : ℕ) → AreKept ds kept → k < kept
    → get_or (without_last_zeros (pairs_of (evened ds))) k 0 ≡ get_or (pairs_of (evened ds)) k 0
kept_at ds kept k h less = ap (λ ps. get_or ps k 0) (sym h.pairs) ∙ get_or-take kept (pairs_of (evened ds)) k 0 less

next_byte : (ds : List ℕ) (k : ℕ) → get_or (long_bytes ds) (suc k) 0 ≡ get_or (pair_bytes (without_last_zeros (pairs_of (evened ds)))) k 0
unfolding long_bytes
next_byte ds k = refl

-- the bytes of a number of many digits, by their indices
pub first_byte : (ds : List ℕ) (index : ℕ) → index ≡ 0 → 128 + (length ds + 1) / 2 ≡ get_or (long_bytes ds) index 0
unfolding long_bytes
first_byte ds index e = ap (λ n. get_or (long_bytes ds) n 0) (sym e)

pub past_byte : (ds : List ℕ) (kept index : ℕ) → AreKept ds kept → kept < index → 0 ≡ get_or (long_bytes ds) index 0
past_byte ds kept zero h less = absurd (omega arith)
past_byte ds kept (suc k) h less =
    let count = kept_length ds kept h in sym (next_byte ds k ∙ byte_past (without_last_zeros (pairs_of (evened ds))) k (omega (arith, count, less)))

pub last_byte : (ds : List ℕ) (kept index : ℕ) → AreKept ds kept → 0 < index → index ≡ kept
    → 10 + 2 * get_or (pairs_of (evened ds)) (index - 1) 0 ≡ get_or (long_bytes ds) index 0
last_byte ds kept zero h some e = absurd (omega arith)
last_byte ds kept (suc k) h some e =
    let count = kept_length ds kept h
    in let back : suc k - 1 ≡ k = omega arith
    in ap (λ n. 10 + 2 * get_or (pairs_of (evened ds)) n 0) back
    ∙ ap (λ p. 10 + 2 * p) (sym (kept_at ds kept k h (omega (arith, e))))
    ∙ sym (next_byte ds k ∙ byte_last (without_last_zeros (pairs_of (evened ds))) k (e ∙ sym count))

pub inner_byte : (ds : List ℕ) (kept index : ℕ) → AreKept ds kept → 0 < index → index < kept
    → 11 + 2 * get_or (pairs_of (evened ds)) (index - 1) 0 ≡ get_or (long_bytes ds) index 0
inner_byte ds kept zero h some less = absurd (omega arith)
inner_byte ds kept (suc k) h some less =
    let count = kept_length ds kept h
    in let back : suc k - 1 ≡ k = omega arith
    in ap (λ n. 11 + 2 * get_or (pairs_of (evened ds)) n 0) back
    ∙ ap (λ p. 11 + 2 * p) (sym (kept_at ds kept k h (omega (arith, less))))
    ∙ sym (next_byte ds k ∙ byte_before (without_last_zeros (pairs_of (evened ds))) k (omega (arith, count, less)))

pub long_length : (ds : List ℕ) (kept : ℕ) → AreKept ds kept → length (long_bytes ds) ≡ kept + 1
unfolding long_bytes
long_length ds kept h =
    let count = kept_length ds kept h
    in let bytes = bytes_length (without_last_zeros (pairs_of (evened ds)))
    in omega (arith, count, bytes)

-- ---- Elements of bytes

pub long_is : (lead : ℕ) (ds : List ℕ) → long_number lead ds ≡ elements_of_bytes lead (long_bytes ds)
unfolding long_number long_bytes evened
long_is lead ds = refl

bytes_first : (lead : ℕ) (bs : List ℕ) → 0 < length bs
    → elements_of_bytes lead bs ≡ primary_element (primary_of lead (get_or bs 0 0) (get_or bs 1 0) (get_or bs 2 0)) ∷ elements_of_bytes lead (drop 3 bs)
unfolding elements_of_bytes
bytes_first lead [] h = absurd (omega arith)
bytes_first lead (a ∷ []) h = refl
bytes_first lead (a ∷ b ∷ []) h = refl
bytes_first lead (a ∷ b ∷ c ∷ bs) h = refl

-- the element of the three bytes from an index on was appended
pub bytes_appended : (lead : ℕ) (whole before after : List Element) (bs : List ℕ) (index second third fourth : ℕ) → index < length bs
    → second ≡ get_or bs index 0 → third ≡ get_or bs (index + 1) 0 → fourth ≡ get_or bs (index + 2) 0
    → before ++ elements_of_bytes lead (drop index bs) ≡ whole
    → after ≡ before ++ primary_element (primary_of lead second third fourth) ∷ []
    → after ++ elements_of_bytes lead (drop (index + 3) bs) ≡ whole
bytes_appended lead whole before after bs index second third fourth inside e f g so_far added =
    let count = length-drop index bs
    in let rest = elements_of_bytes lead (drop (index + 3) bs)
    in let none : index + 0 ≡ index = omega arith
    in let first = bytes_first lead (drop index bs) (omega (arith, count, inside))
    in let at_second = get_or-drop index bs 0 0 ∙ ap (λ n. get_or bs n 0) none ∙ sym e
    in let at_third = get_or-drop index bs 1 0 ∙ sym f
    in let at_fourth = get_or-drop index bs 2 0 ∙ sym g
    in let behind = ap (elements_of_bytes lead) (drop-drop 3 index bs)
    in ap (λ es. es ++ rest) added
    ∙ append_assoc before (primary_element (primary_of lead second third fourth) ∷ []) rest
    ∙ ap (λ es. before ++ es) (cc (first, at_second, at_third, at_fourth, behind))
    ∙ so_far

-- the elements of all bytes were appended
pub bytes_ended : (lead : ℕ) (whole before : List Element) (bs : List ℕ) (index : ℕ) → length bs ≤ index
    → before ++ elements_of_bytes lead (drop index bs) ≡ whole → before ≡ whole
unfolding elements_of_bytes
bytes_ended lead whole before bs index past so_far =
    sym (append-nil before) ∙ ap (λ xs. before ++ elements_of_bytes lead xs) (sym (drop_all index bs past)) ∙ so_far

-- How UTF-16 units read from either end.
use Rattle.std.proofs.Common.{◌≡◌, ℕ, ◌+◌, ◌-◌, ◌<◌, ◌≤◌, Bool, true, false, ◌&&◌, List, [], ◌∷◌, ◌++◌, length, take, drop, map, slice_index, refl, sym, ap, ◌∙◌, arith, ⊎_elim, take_all, append_assoc}
use Rattle.std.proofs.lemmas.List.{take_more, length-append, length-take-le, get_or-take}
use Rattle.std.proofs.Math.Seq.{get_or-append_seam}
use Rattle.std.proofs.lemmas.Bool.Decides.{nat_tests}
use Rattle.std.proofs.lemmas.Bool.{cases_Bool, cond-true, cond-false}
use Rattle.std.specs.Option.{unwrap_or}
use Rattle.std.specs.Char.Utf16.{is_high_surrogate, is_low_surrogate, lone_unit_char, surrogate_pair_char, utf16_chars as spelled}
use Rattle.icu_normalizer_core.specs.Decoding.{utf16_chars}

-- the two units are the halves of a surrogate pair
abbrev pub is_pair : ℕ → ℕ → Bool
is_pair u v = is_high_surrogate u && is_low_surrogate v

-- the character of a unit in no pair
abbrev pub lone_char : ℕ → ℕ
lone_char u = unwrap_or (lone_unit_char u) 0xFFFD

pub utf16_chars-nil : utf16_chars [] ≡ []
unfolding spelled
utf16_chars-nil = refl

pub one_unit : (u : ℕ) → utf16_chars (u ∷ []) ≡ lone_char u ∷ []
unfolding spelled
one_unit u = refl

pub pair_step : (u v : ℕ) (us : List ℕ) → is_pair u v ≡ true → utf16_chars (u ∷ v ∷ us) ≡ surrogate_pair_char u v ∷ utf16_chars us
unfolding spelled
pair_step u v us joined = ap (map (λ o. unwrap_or o 0xFFFD)) (cond-true _ _ _ joined)

pub lone_step : (u v : ℕ) (us : List ℕ) → is_pair u v ≡ false → utf16_chars (u ∷ v ∷ us) ≡ lone_char u ∷ utf16_chars (v ∷ us)
unfolding spelled
lone_step u v us apart = ap (map (λ o. unwrap_or o 0xFFFD)) (cond-false _ _ _ apart)

pub first_pair : (us : List ℕ) (c : ℕ) → 2 ≤ length us → is_pair (slice_index us 0) (slice_index us 1) ≡ true
    → c ≡ surrogate_pair_char (slice_index us 0) (slice_index us 1) → utf16_chars us ≡ c ∷ utf16_chars (take (length us - 2) (drop 2 us))
first_pair [] c long joined is = absurd (omega arith)
first_pair (u ∷ []) c long joined is = absurd (omega arith)
first_pair (u ∷ v ∷ us) c long joined is =
    let rest : take (length (u ∷ v ∷ us) - 2) us ≡ us = take_all _ us (omega arith) in
    pair_step u v us joined ∙ ap (λ x. x ∷ utf16_chars us) (sym is) ∙ ap (λ t. c ∷ utf16_chars t) (sym rest)

pub first_lone : (us : List ℕ) (c : ℕ) → 1 ≤ length us → (2 ≤ length us → is_pair (slice_index us 0) (slice_index us 1) ≡ false)
    → c ≡ lone_char (slice_index us 0) → utf16_chars us ≡ c ∷ utf16_chars (take (length us - 1) (drop 1 us))
first_lone [] c long apart is = absurd (omega arith)
first_lone (u ∷ []) c long apart is = one_unit u ∙ ap (λ x. x ∷ []) (sym is) ∙ ap (λ t. c ∷ t) (sym utf16_chars-nil)
first_lone (u ∷ v ∷ us) c long apart is =
    let rest : take (length (u ∷ v ∷ us) - 1) (v ∷ us) ≡ v ∷ us = take_all _ (v ∷ us) (omega arith) in
    lone_step u v us (apart (omega arith)) ∙ ap (λ x. x ∷ utf16_chars (v ∷ us)) (sym is) ∙ ap (λ t. c ∷ utf16_chars t) (sym rest)

-- units may be cut where no pair stands across
pub utf16_chars-append : (us vs : List ℕ) → ((front : List ℕ) (u : ℕ) → us ≡ front ++ u ∷ [] → is_pair u (slice_index vs 0) ≡ false) → 0 < length vs
    → utf16_chars (us ++ vs) ≡ utf16_chars us ++ utf16_chars vs
utf16_chars-append us [] apart some = absurd (omega arith)
utf16_chars-append [] (v ∷ vs) apart some = ap (λ t. t ++ utf16_chars (v ∷ vs)) (sym utf16_chars-nil)
utf16_chars-append (u ∷ []) (v ∷ vs) apart some = lone_step u v vs (apart [] u refl) ∙ ap (λ t. t ++ utf16_chars (v ∷ vs)) (sym (one_unit u))
utf16_chars-append (u ∷ w ∷ us) (v ∷ vs) apart some = ⊎_elim
    (λ joined. pair_step u w (us ++ v ∷ vs) joined
    ∙ ap (λ t. surrogate_pair_char u w ∷ t) (utf16_chars-append us (v ∷ vs) (λ front x e. apart (u ∷ w ∷ front) x (ap (λ t. u ∷ w ∷ t) e)) some)
    ∙ ap (λ t. t ++ utf16_chars (v ∷ vs)) (sym (pair_step u w us joined)))
    (λ alone. lone_step u w (us ++ v ∷ vs) alone
    ∙ ap (λ t. lone_char u ∷ t) (utf16_chars-append (w ∷ us) (v ∷ vs) (λ front x e. apart (u ∷ front) x (ap (λ t. u ∷ t) e)) some)
    ∙ ap (λ t. t ++ utf16_chars (v ∷ vs)) (sym (lone_step u w us alone)))
    (cases_Bool (is_pair u w))

-- the first half of a pair is no second half
never_second : (x u v : ℕ) → is_pair u v ≡ true → is_pair x u ≡ false
never_second x u v joined = grind (arith, nat_tests)

pub last_pair : (us : List ℕ) (c : ℕ) → 2 ≤ length us → is_pair (slice_index us (length us - 2)) (slice_index us (length us - 1)) ≡ true
    → c ≡ surrogate_pair_char (slice_index us (length us - 2)) (slice_index us (length us - 1)) → utf16_chars us ≡ utf16_chars (take (length us - 2) us) ++ c ∷ []
last_pair us c long joined is =
    let n = length us in
    let front = take (n - 2) us in
    let u = slice_index us (n - 2) in
    let v = slice_index us (n - 1) in
    let one : take (n - 2 + 1) us ≡ front ++ u ∷ [] = take_more us (n - 2) 0 (omega arith) in
    let two : take (n - 1 + 1) us ≡ take (n - 1) us ++ v ∷ [] = take_more us (n - 1) 0 (omega arith) in
    let middle : n - 2 + 1 ≡ n - 1 = omega arith in
    let whole : us ≡ front ++ u ∷ v ∷ [] = sym (take_all (n - 1 + 1) us (omega arith)) ∙ two ∙ ap (λ k. take k us ++ v ∷ []) (sym middle)
    ∙ ap (λ t. t ++ v ∷ []) one ∙ append_assoc front (u ∷ []) (v ∷ []) in
    ap utf16_chars whole ∙ utf16_chars-append front (u ∷ v ∷ []) (λ _ x _. never_second x u v joined) (omega arith)
    ∙ ap (λ t. utf16_chars front ++ t) (pair_step u v [] joined ∙ ap (λ x. x ∷ utf16_chars []) (sym is) ∙ ap (λ t. c ∷ t) utf16_chars-nil)

pub last_lone : (us : List ℕ) (c : ℕ) → 1 ≤ length us → (2 ≤ length us → is_pair (slice_index us (length us - 2)) (slice_index us (length us - 1)) ≡ false)
    → c ≡ lone_char (slice_index us (length us - 1)) → utf16_chars us ≡ utf16_chars (take (length us - 1) us) ++ c ∷ []
last_lone us c long apart is =
    let n = length us in
    let front = take (n - 1) us in
    let v = slice_index us (n - 1) in
    let one : take (n - 1 + 1) us ≡ front ++ v ∷ [] = take_more us (n - 1) 0 (omega arith) in
    let whole : us ≡ front ++ v ∷ [] = sym (take_all (n - 1 + 1) us (omega arith)) ∙ one in
    let across = λ (before : List ℕ) (u : ℕ) (e : front ≡ before ++ u ∷ []).
    let size : length before + 1 ≡ n - 1 = sym (length-append before (u ∷ [])) ∙ ap length (sym e) ∙ length-take-le (n - 1) us (omega arith) in
    let at : length before ≡ n - 2 = omega arith in
    let read : slice_index us (n - 2) ≡ u = ap (slice_index us) (sym at) ∙ sym (get_or-take (n - 1) us (length before) 0 (omega arith))
    ∙ ap (λ t. slice_index t (length before)) e ∙ get_or-append_seam before u [] 0 in
    ap (λ x. is_pair x v) (sym read) ∙ apart (omega arith) in
    ap utf16_chars whole ∙ utf16_chars-append front (v ∷ []) across (omega arith)
    ∙ ap (λ t. utf16_chars front ++ t) (one_unit v ∙ ap (λ x. x ∷ []) (sym is))

pub none_left : (us : List ℕ) → length us < 1 → utf16_chars us ≡ []
none_left [] few = utf16_chars-nil
none_left (u ∷ us) few = absurd (omega arith)

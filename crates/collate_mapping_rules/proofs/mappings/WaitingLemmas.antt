-- Characters that wait for their steps, and a list before which what is left of them is put.
use Rattle.std.proofs.Common.{◌≡◌, ◌≢◌, ℕ, zero, suc, ◌+◌, ◌-◌, ◌<◌, List, [], ◌∷◌, ◌++◌, flat_map, refl, sym, ap, ◌∙◌, arith, append-nil, append_assoc}
use Rattle.std.specs.Prelude.{sum_by}
use Rattle.std.proofs.lemmas.List.Sums.{sum_by_push}
use Rattle.icu_normalizer_core.specs.Canonical.{marks_in_order, put_in_order}
use Rattle.collate_lines.specs.Record.{Record}
use Rattle.collate_rules.specs.LowParts.{AreLeft, left_of, turns}
use Rattle.collate_rules.specs.Meaning.{class_of, expanded, full_of, step_of}
use Rattle.collate_rules.proofs.lists.RuleFullListLemmas.{expanded_one, expanded_two}
use Rattle.collate_mapping_rules.proofs.mappings.MappingOrderLemmas.{in_order_cons, in_order_none}

turns_some : (n : ℕ) → 0 < turns n
unfolding turns
turns_some zero = omega arith
turns_some (suc n) = omega arith

turns_next : (n : ℕ) → turns (suc n) ≡ suc (turns n + turns n)
unfolding turns
turns_next n = refl

turns_fewer : (n : ℕ) → n ≢ 0 → turns (n - 1) + turns (n - 1) < turns n
turns_fewer zero some = absurd (some refl)
turns_fewer (suc n) some =
    let less : suc n - 1 ≡ n = omega arith in
    let same : turns (suc n - 1) ≡ turns n = ap turns less in
    omega (arith, same, turns_next n)

flat_push : {A : Type 0} (f : A → List ℕ) (xs : List A) (x : A) → flat_map f (xs ++ x ∷ []) ≡ flat_map f xs ++ f x
flat_push f [] x = append-nil (f x)
flat_push f (y ∷ ys) x = ap (λ (l : List ℕ). f y ++ l) (flat_push f ys x) ∙ sym (append_assoc (f y) (flat_map f ys) (f x))

-- how many turns characters take that wait
abbrev turns_of : List (ℕ × ℕ) → ℕ
turns_of waiting = sum_by (λ w. turns w.1) waiting

pub fewer_put : (waiting : List (ℕ × ℕ)) (n : ℕ) → turns_of waiting < turns_of waiting + turns n
fewer_put waiting n = omega (arith, turns_some n)

pub fewer_one : (waiting after : List (ℕ × ℕ)) (c n : ℕ) → n ≢ 0 → after ≡ waiting ++ (c, n - 1) ∷ [] → turns_of after < turns_of waiting + turns n
fewer_one waiting after c n some e =
    let more = ap turns_of e ∙ sum_by_push (λ (w : ℕ × ℕ). turns w.1) waiting (c, n - 1) in
    omega (arith, more, turns_fewer n some, turns_some (n - 1))

pub fewer_two : (waiting between after : List (ℕ × ℕ)) (c d n : ℕ) → n ≢ 0 → between ≡ waiting ++ (c, n - 1) ∷ [] → after ≡ between ++ (d, n - 1) ∷ []
    → turns_of after < turns_of waiting + turns n
fewer_two waiting between after c d n some e f =
    let one = ap turns_of e ∙ sum_by_push (λ (w : ℕ × ℕ). turns w.1) waiting (c, n - 1) in
    let two = ap turns_of f ∙ sum_by_push (λ (w : ℕ × ℕ). turns w.1) between (d, n - 1) in
    omega (arith, one, two, turns_fewer n some)

module _ (lines : List Record) (waiting : List (ℕ × ℕ)) (c n : ℕ) (old rest : List ℕ) (sorted : old ≡ marks_in_order (class_of lines) rest) where
  -- a character that no step leads on from is put before the list,
  pub left_put : (new : List ℕ) → expanded (step_of lines) n c ≡ c ∷ [] → new ≡ put_in_order (class_of lines) c old
      → AreLeft lines (left_of (step_of lines) waiting ++ (expanded (step_of lines) n c ++ rest)) waiting new
  left_put new one put = (
    c ∷ rest,
    put ∙ ap (put_in_order (class_of lines) c) sorted ∙ sym (in_order_cons (class_of lines) c rest),
    ap (λ (l : List ℕ). left_of (step_of lines) waiting ++ (l ++ rest)) (sym one),
  )

  -- or the one character of its mapping waits,
  pub left_one : (after : List (ℕ × ℕ)) (d : ℕ) → n ≢ 0 → step_of lines c ≡ d ∷ [] → after ≡ waiting ++ (d, n - 1) ∷ []
      → AreLeft lines (left_of (step_of lines) waiting ++ (expanded (step_of lines) n c ++ rest)) after old
  left_one after d some step e =
      let f : (ℕ × ℕ) → List ℕ = λ w. expanded (step_of lines) w.1 w.0 in (
        rest,
        sorted,
        ap (λ (w : List (ℕ × ℕ)). flat_map f w ++ rest) e
            ∙ ap (λ (l : List ℕ). l ++ rest) (flat_push f waiting (d, n - 1))
            ∙ append_assoc (flat_map f waiting) (expanded (step_of lines) (n - 1) d) rest
            ∙ ap (λ (l : List ℕ). flat_map f waiting ++ (l ++ rest)) (sym (expanded_one (step_of lines) n c d some step)),
      )

  -- or the two
  pub left_two : (between after : List (ℕ × ℕ)) (d e : ℕ) → n ≢ 0 → step_of lines c ≡ d ∷ e ∷ [] → between ≡ waiting ++ (d, n - 1) ∷ [] → after ≡ between ++ (e, n - 1) ∷ []
      → AreLeft lines (left_of (step_of lines) waiting ++ (expanded (step_of lines) n c ++ rest)) after old
  left_two between after d e some step first second =
      let f : (ℕ × ℕ) → List ℕ = λ w. expanded (step_of lines) w.1 w.0 in
      let whole : flat_map f after ≡ (flat_map f waiting ++ expanded (step_of lines) (n - 1) d) ++ expanded (step_of lines) (n - 1) e =
      ap (flat_map f) second ∙ flat_push f between (e, n - 1)
      ∙ ap (λ (l : List ℕ). l ++ expanded (step_of lines) (n - 1) e) (ap (flat_map f) first ∙ flat_push f waiting (d, n - 1)) in (
        rest,
        sorted,
        ap (λ (l : List ℕ). l ++ rest) (whole ∙ append_assoc (flat_map f waiting) (expanded (step_of lines) (n - 1) d) (expanded (step_of lines) (n - 1) e))
            ∙ append_assoc (flat_map f waiting) (expanded (step_of lines) (n - 1) d ++ expanded (step_of lines) (n - 1) e) rest
            ∙ ap (λ (l : List ℕ). flat_map f waiting ++ (l ++ rest)) (sym (expanded_two (step_of lines) n c d e some step)),
      )

-- one character waits, and the list is empty,
pub left_start : (lines : List Record) (c : ℕ) (waiting : List (ℕ × ℕ)) (list : List ℕ) → waiting ≡ (c, 0x110000) ∷ [] → list ≡ [] → AreLeft lines (full_of lines c) waiting list
left_start lines c waiting list e none = (
  [],
  none ∙ sym (in_order_none (class_of lines)),
  ap (λ (w : List (ℕ × ℕ)). left_of (step_of lines) w ++ []) e ∙ append-nil (full_of lines c ++ []) ∙ append-nil (full_of lines c),
)

-- the last that waits is taken,
pub left_turn : (lines : List Record) (text : List ℕ) (waiting before : List (ℕ × ℕ)) (c n : ℕ) (list : List ℕ) → waiting ≡ before ++ (c, n) ∷ [] → AreLeft lines text waiting list
    → (rest : List ℕ) × (list ≡ marks_in_order (class_of lines) rest) × (left_of (step_of lines) before ++ (expanded (step_of lines) n c ++ rest) ≡ text)
left_turn lines text waiting before c n list e left =
    let f : (ℕ × ℕ) → List ℕ = λ w. expanded (step_of lines) w.1 w.0 in (
      left.0,
      left.1,
      sym (append_assoc (flat_map f before) (expanded (step_of lines) n c) left.0)
          ∙ ap (λ (l : List ℕ). l ++ left.0) (sym (ap (flat_map f) e ∙ flat_push f before (c, n)))
          ∙ left.2,
    )

pub fewer_turns : (waiting before after : List (ℕ × ℕ)) (c n : ℕ) → waiting ≡ before ++ (c, n) ∷ [] → turns_of after < turns_of before + turns n → turns_of after < turns_of waiting
fewer_turns waiting before after c n e fewer =
    let whole = ap turns_of e ∙ sum_by_push (λ (w : ℕ × ℕ). turns w.1) before (c, n) in omega (arith, whole)

-- none waits
pub left_end : (lines : List Record) (text : List ℕ) (waiting : List (ℕ × ℕ)) (list : List ℕ) → waiting ≡ [] → AreLeft lines text waiting list → list ≡ marks_in_order (class_of lines) text
left_end lines text waiting list none left =
    left.1 ∙ ap (marks_in_order (class_of lines)) (sym (ap (λ (w : List (ℕ × ℕ)). left_of (step_of lines) w ++ left.0) none) ∙ left.2)

-- From what is settled to the words of full lists.
use Rattle.std.proofs.Common.{◌≡◌, ℕ, zero, suc, ◌/◌, ◌<◌, ◌≤◌, ⊎_elim, List, [], ◌∷◌, ◌++◌, length, take, slice_index, slice_get, Option, Some, None, refl, sym, ap, subst, ◌∙◌, arith}
use Rattle.std.specs.List.{All}
use Rattle.std.specs.Char.{IsScalar}
use Rattle.std.proofs.lemmas.List.{append-nil}
use Rattle.std.proofs.lemmas.List.Elements.{All-cons, All-nil, All-head, All-tail}
use Rattle.icu_normalizer_core.specs.declared.canonical.check.left.Left.{Left}
use Rattle.icu_normalizer_core.specs.declared.builder.list_words.ListWords.{ListWords}
use Rattle.icu_normalizer_core.specs.BuiltIn.{built_in_step}
use Rattle.icu_normalizer_core.specs.Canonical.{Leaves, unmapped, mapped, IsFree}
use Rattle.icu_normalizer_core.specs.CanonicalLists.{AreTriples, step_in}
use Rattle.icu_normalizer_core.specs.CharacterWords.{AreListWords, HasBadEnd}
use Rattle.icu_normalizer_core.specs.ListWords.{StatesList, StateSettled, AreLists, HasUnsettled}
use Rattle.icu_normalizer_core.specs.Settled.{left_items, key_at, AreStarts, IsStartOf, IsDone}
use Rattle.icu_normalizer_core.proofs.accepted.AcceptedTables.{listed_scalars}
use Rattle.icu_normalizer_core.proofs.built.BuiltInFacts.{built_in_short}
use Rattle.icu_normalizer_core.proofs.decomposed_lists.DecomposedLemmas.{left_one}
use Rattle.icu_normalizer_core.proofs.settling.EndingLemmas.{got_cases}
use Rattle.icu_normalizer_core.proofs.settling.LeftLemmas.{left_scalars}
use Rattle.icu_normalizer_core.proofs.settling.SettlingLemmas.{open_endless}
use Rattle.icu_normalizer_core.proofs.accepted.TableMeanings.{step_in_built_in, step_in_free}

-- ---- Lists cut to nine

pub take_whole : (n : ℕ) (xs : List ℕ) → length (take n xs) < n → take n xs ≡ xs
take_whole zero xs h = absurd (omega arith)
take_whole (suc n) [] h = refl
take_whole (suc n) (x ∷ xs) h = ap (λ (t : List ℕ). x ∷ t) (take_whole n xs (omega arith))

take_most : (n : ℕ) (xs : List ℕ) → length (take n xs) ≤ length xs
take_most zero xs = omega arith
take_most (suc n) [] = omega arith
take_most (suc n) (x ∷ xs) = let h = take_most n xs in omega arith

pub take_some : (xs : List ℕ) → 0 < length xs → 0 < length (take 9 xs)
take_some [] h = absurd (omega arith)
take_some (x ∷ xs) h = omega arith

pub take_all_of : (P : ℕ → Type 0) (n : ℕ) (xs : List ℕ) → All P xs → All P (take n xs)
take_all_of P zero xs all = All-nil P
take_all_of P (suc n) [] all = All-nil P
take_all_of P (suc n) (x ∷ xs) all = All-cons P x (take n xs) (All-head P x xs all) (take_all_of P n xs (All-tail P x xs all))

-- ---- What steps leave

pub left_some : (step : ℕ → List ℕ) (x : ℕ) (xs ns : List ℕ) → Leaves step (x ∷ xs) ns → 0 < length ns
left_some step x xs ns (unmapped c cs ms e h) = omega arith
left_some step x xs ns (mapped c d ds cs ms e h) = left_some step d (ds ++ cs) ns h

pub step_in_scalars : (steps : List ℕ) → AreTriples steps → (c : ℕ) → All IsScalar (step_in steps c)
step_in_scalars steps t c = by (built_in_step c) refl
  where
    by : (o : Option (List ℕ)) → built_in_step c ≡ o → All IsScalar (step_in steps c)
    by (Some ds) e = subst (All IsScalar) (sym (step_in_built_in steps c ds e)) (built_in_short c ds e).0
    by None e = subst (All IsScalar) (sym (step_in_free steps c e)) (listed_scalars steps c (record { firsts = t.firsts; seconds = t.seconds }))

module _ (steps : List ℕ) (settled : List (Option Left)) (t : AreTriples steps) (free : (index : ℕ) → index < length steps / 3 → IsFree (key_at steps index))
    (starts : AreStarts steps settled) where
  start : (i : ℕ) (left : Left) → i < length settled → slice_get settled i ≡ Some (Some left) → IsStartOf steps (key_at steps i ∷ []) left
  start i left h e = starts.each i left e (free i (let n = starts.count in omega arith))

  inside_of : (xs : List (Option Left)) (i : ℕ) (x : Option Left) → slice_get xs i ≡ Some x → i < length xs
  inside_of [] i x e = absurd cc
  inside_of (y ∷ ys) zero x e = omega arith
  inside_of (y ∷ ys) (suc i) x e = let h = inside_of ys i x e in omega arith

  pub settled_lists : AreLists settled
  settled_lists i left e =
      let h = inside_of settled i (Some left) e in
      let s = start i left h e in
      let key : IsScalar (key_at steps i) = t.characters i (let n = starts.count in omega arith) in
      let all : All IsScalar s.0 = left_scalars (step_in steps) (key_at steps i ∷ []) s.0 (step_in_scalars steps t) (All-cons IsScalar (key_at steps i) [] key (All-nil IsScalar)) s.1 in (
        subst (All IsScalar) (sym s.2) (take_all_of IsScalar 9 s.0 all),
        subst (λ (xs : List ℕ). 0 < length xs) (sym s.2) (take_some s.0 (left_some (step_in steps) (key_at steps i) [] s.0 s.1)),
      )

  pub settled_words : (lists : ListWords) → StateSettled lists.scalars24.items settled lists.words.items (length settled) → AreListWords steps lists
  settled_words lists state = record {
    count = state.count ∙ starts.count;
    free = free;
    each = λ index h.
        let within : index < length settled = let n = starts.count in omega arith in
        let w = state.each index within in
        let s = start index w.0 within w.1 in
        let whole : take 9 s.0 ≡ s.0 = take_whole 9 s.0 (let few = w.2 in omega (arith, ap length s.2)) in
        let states : StatesList [] lists.scalars24.items (slice_index lists.words.items index) (left_items w.0) =
        subst (λ (xs : List ℕ). StatesList [] xs (slice_index lists.words.items index) (left_items w.0)) (append-nil lists.scalars24.items) (w.3 []) in
        (s.0, s.1, subst (StatesList [] lists.scalars24.items (slice_index lists.words.items index)) (s.2 ∙ whole) states);
  }

  pub unsettled_end : IsDone steps settled → HasUnsettled settled → HasBadEnd steps
  unsettled_end done w =
      let i : ℕ = w.0 in
      let within : i < length steps / 3 = let n = starts.count in let h = w.1 in omega arith in (
        i,
        within,
        λ list leaves. ⊎_elim
            (λ none. absurd (open_endless steps settled t starts done i none (let r = t.whole in omega arith) (free i within) list leaves))
            (λ found.
            let s = start i found.0 w.1 found.1 in
            let same : s.0 ≡ list = left_one (step_in steps) (key_at steps i ∷ []) s.0 list s.1 leaves in
            let long = w.2 found.0 found.1 in
            omega (arith, long, ap length s.2, take_most 9 s.0, ap length same))
            (got_cases settled i w.1),
      )

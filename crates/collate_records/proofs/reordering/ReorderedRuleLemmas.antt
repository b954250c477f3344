-- The rules on single lines, and those on two lines for one thing, of the same lines in another order.
use Rattle.std.proofs.Common.{◌≡◌, ℕ, ◌<◌, Bool, true, not, ◌&&◌, ◌||◌, ◌==◌, List, ◌∷◌, length, take, Option, Some, None, refl, sym, ap, ◌∙◌, subst, bytes_eq}
use Rattle.std.specs.Bool.{IsTrue}
use Rattle.std.specs.Cmp.{nat_eq_equiv}
use Rattle.std.specs.List.{list_any}
use Rattle.std.specs.List.Sorted.{IsPermutation}
use Rattle.std.proofs.Math.Path.{fun_ext}
use Rattle.std.proofs.lemmas.Bool.{false≢true}
use Rattle.std.proofs.lemmas.List.Elements.{All-get_or}
use Rattle.std.proofs.lemmas.List.Sorted.{All-permutation}
use Rattle.std.proofs.lemmas.Option.{unwrap_or-slice_get}
use Rattle.std.proofs.lemmas.Slice.Eq.{bytes_eq-Decides}
use Rattle.icu_normalizer_core.specs.BuiltIn.{is_jamo}
use Rattle.icu_normalizer_core.specs.Canonical.{Canonical}
use Rattle.icu_collator_core.specs.ContextRules.{is_recorded_in, is_recorded_shorter}
use Rattle.collate_lines.specs.declared.rule.Rule.TheVariants.{C5, V9, V12, V14}
use Rattle.collate_lines.specs.Record.{Record, nothing, class, mapping, compatibility, weights, digit, setting, Layer, root, tailoring, is_same_layer}
use Rattle.collate_lines.specs.Repeats.{is_second, record_at, setting_name}
use Rattle.collate_rules.specs.Meaning.{canonical_of, weights_of}
use Rattle.collate_rules.specs.Offenders.{NoneOffends}
use Rattle.collate_rules.specs.RecordRules.{is_alone, is_bad_jamo_record, is_one_word, lacks_shorter}
use Rattle.collate_rules.specs.Rules.{is_same_pair, pair_in}
use Rattle.collate_rules.proofs.given.GivenListLemmas.{same_answer}
use Rattle.collate_rules.proofs.offenders.LineRuleLemmas.{each_line}
use Rattle.collate_records.proofs.reordering.MovedListLemmas.{new_moved}
use Rattle.collate_records.proofs.reordering.SameSayingLemmas.{canonical_same, recorded_same, replaced_same}

-- ---- Which lines are alike goes both ways

bytes_flip : (xs ys : List ℕ) → bytes_eq xs ys ≡ bytes_eq ys xs
bytes_flip xs ys =
    same_answer (bytes_eq xs ys) (bytes_eq ys xs)
    (λ t. (bytes_eq-Decides ys xs).1 (sym ((bytes_eq-Decides xs ys).0 t))) (λ t. (bytes_eq-Decides xs ys).1 (sym ((bytes_eq-Decides ys xs).0 t)))

layer_flip : (l m : Layer) → is_same_layer l m ≡ is_same_layer m l
layer_flip root root = refl
layer_flip root tailoring = refl
layer_flip tailoring root = refl
layer_flip tailoring tailoring = refl

weights_flip : (l m : Layer) (p q t u : List ℕ) → (is_same_layer l m && bytes_eq p q && bytes_eq t u) ≡ (is_same_layer m l && bytes_eq q p && bytes_eq u t)
weights_flip l m p q t u =
    ap (λ (b : Bool). b && bytes_eq p q && bytes_eq t u) (layer_flip l m)
    ∙ ap (λ (b : Bool). is_same_layer m l && b && bytes_eq t u) (bytes_flip p q)
    ∙ ap (λ (b : Bool). is_same_layer m l && bytes_eq q p && b) (bytes_flip t u)

second_turned : (s t : Record) → is_second s t ≡ true → is_second t s ≡ true
second_turned (class c k) (class d l) h = sym (nat_eq_equiv.symm c d) ∙ h
second_turned (mapping c cs x) (mapping d ds y) h = sym (nat_eq_equiv.symm c d) ∙ h
second_turned (compatibility c cs) (compatibility d ds) h = sym (nat_eq_equiv.symm c d) ∙ h
second_turned (weights l p t es) (weights m q u fs) h = sym (weights_flip l m p q t u) ∙ h
second_turned (digit c v) (digit d w) h = sym (nat_eq_equiv.symm c d) ∙ h
second_turned (setting s) (setting r) h = sym (bytes_flip (setting_name s) (setting_name r)) ∙ h
second_turned _ _ h = absurd (false≢true h)

second_flips : (s t : Record) → is_second s t ≡ is_second t s
second_flips s t = same_answer (is_second s t) (is_second t s) (second_turned s t) (second_turned t s)

pair_flips : (o p : Option (ℕ × ℕ)) → is_same_pair o p ≡ is_same_pair p o
pair_flips (Some p) (Some q) =
    ap (λ (b : Bool). b && (p.1 == q.1)) (nat_eq_equiv.symm p.0 q.0) ∙ ap (λ (b : Bool). (q.0 == p.0) && b) (nat_eq_equiv.symm p.1 q.1)
pair_flips (Some p) None = refl
pair_flips None (Some q) = refl
pair_flips None None = refl

module _ (a b : List Record) (moved : IsPermutation a b) where
  -- what holds of each line by its index
  pub each_moved : (P : Record → Type 0) → ((i : ℕ) → i < length a → P (record_at a i)) → (i : ℕ) → i < length b → P (record_at b i)
  each_moved P each i lt =
      subst P (sym (unwrap_or-slice_get b i nothing)) (All-get_or P b i nothing lt (All-permutation P a b moved (each_line P a each)))

  none_alike : (alike : Record → Record → Bool) → ((s t : Record) → alike s t ≡ alike t s)
      → ((i : ℕ) → i < length a → list_any (λ s. alike s (record_at a i)) (take i a) ≡ true → ⊥)
      → (i : ℕ) → i < length b → list_any (λ s. alike s (record_at b i)) (take i b) ≡ true → ⊥
  none_alike alike flips keeps i lt t =
      new_moved alike nothing flips a b moved
      (λ j lj h. keeps j lj (subst (λ (r : Record). list_any (λ s. alike s r) (take j a) ≡ true) (sym (unwrap_or-slice_get a j nothing)) h))
      i lt (subst (λ (r : Record). list_any (λ s. alike s r) (take i b) ≡ true) (unwrap_or-slice_get b i nothing) t)

  pub repeats_moved : NoneOffends V14 a → NoneOffends V14 b
  repeats_moved = none_alike is_second second_flips

  pub pairs_moved : NoneOffends C5 a → NoneOffends C5 b
  pairs_moved = none_alike (λ s t. is_same_pair (pair_in s) (pair_in t)) (λ s t. pair_flips (pair_in s) (pair_in t))

  module _ (once : NoneOffends V14 a) (pairs : NoneOffends C5 a) where
    lacks_same : lacks_shorter a ≡ lacks_shorter b
    lacks_same = fun_ext by
      where
        by : (r : Record) → lacks_shorter a r ≡ lacks_shorter b r
        by (weights layer prefix (c ∷ suffix) es) =
            ap (λ (canonical : Canonical). not (is_recorded_shorter canonical (is_recorded_in (weights_of a)) c suffix)) (canonical_same a b moved once pairs)
            ∙ ap (λ (is_recorded : List ℕ → List ℕ → Bool). not (is_recorded_shorter (canonical_of b) is_recorded c suffix)) (recorded_same a b moved once)
        by _ = refl

    pub shorter_moved : NoneOffends V9 a → NoneOffends V9 b
    shorter_moved keeps i lt =
        subst (λ (lacks : Record → Bool). IsTrue (lacks (record_at b i)) → ⊥) lacks_same (each_moved (λ r. IsTrue (lacks_shorter a r) → ⊥) keeps i lt)

    jamo_same : is_bad_jamo_record a ≡ is_bad_jamo_record b
    jamo_same = fun_ext by
      where
        by : (r : Record) → is_bad_jamo_record a r ≡ is_bad_jamo_record b r
        by (weights layer prefix text es) =
            ap (λ (is : Layer → List ℕ → List ℕ → Bool). list_any is_jamo text && not (is_alone prefix text && (is layer prefix text || is_one_word es))) (replaced_same a b moved once)
        by _ = refl

    pub jamo_moved : NoneOffends V12 a → NoneOffends V12 b
    jamo_moved keeps i lt =
        subst (λ (is_bad : Record → Bool). IsTrue (is_bad (record_at b i)) → ⊥) jamo_same (each_moved (λ r. IsTrue (is_bad_jamo_record a r) → ⊥) keeps i lt)

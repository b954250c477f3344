-- When full lists are bad.
use Rattle.std.proofs.Common.{◌≡◌, ◌≢◌, ℕ, ◌<◌, ◌≤◌, List, [], ◌∷◌, map, take, length, refl, sym, ap, ◌∙◌, subst, arith, inl, inr, ⊎_elim, Bool, true, false, not, ◌||◌, ◌==◌, Option, ◌↔◌}
use Rattle.std.specs.Bool.{IsTrue}
use Rattle.std.specs.List.{slice_get, All}
use Rattle.std.specs.Option.{is_some}
use Rattle.std.proofs.lemmas.Bool.{false≢true}
use Rattle.std.proofs.Math.Path.{fun_ext}
use Rattle.collate_rules.specs.declared.canonical_part.CanonicalPart.{CanonicalPart}
use Rattle.collate_rules.specs.declared.full_list.Front.{Front}
use Rattle.collate_lines.specs.Record.{Record}
use Rattle.collate_rules.specs.Meaning.{first_found, mapping_in, compatibility_in, expanded, full_of}
use Rattle.collate_rules.specs.Rules.{is_mapped, IsBadlyMapped, compatibility_full_of, begins_with_mark, IsBadList, HasBadList}
use Rattle.collate_rules.specs.CanonicalParts.{in_full, SaysSame, subject_of}
use Rattle.collate_rules.specs.Lists.{is_mark_at, IsFront}
use Rattle.collate_rules.proofs.mappings.CanonicalPartLemmas.{class_of-same, step_of-same, any_step-same, none_of_all, unsaid_compatibility, unsaid_mapping}

mark_at_front : (records : List Record) (list : List ℕ) → begins_with_mark records list ≡ is_mark_at records (slice_get list 0)
mark_at_front records [] = refl
mark_at_front records (c ∷ cs) = refl

-- a list of more than eight characters is bad,
pub bad_long : (records : List Record) (list : List ℕ) (front : Front) → IsFront front list → 8 < front.count → IsBadList records list
bad_long records list front h more = let count = h.1 in inl (omega arith)

-- another one exactly if it begins with a mark
pub bad_short : (records : List Record) (list : List ℕ) (front : Front) (b : Bool) → IsFront front list → front.count ≤ 8 → b ≡ is_mark_at records front.first
    → IsTrue b ↔ IsBadList records list
bad_short records list front b h few e =
    let same : b ≡ begins_with_mark records list = e ∙ ap (is_mark_at records) h.0 ∙ sym (mark_at_front records list) in
    let count = h.1 in
    (λ t. inr (sym same ∙ t), λ bad. ⊎_elim (λ long. absurd (omega arith)) (λ marked. same ∙ marked) bad)

-- a mapped character is one of which a part says something
pub mapped_in_parts : (parts : List CanonicalPart) (c : ℕ) → is_mapped (map in_full parts) c ≡ true → (All (λ part. c ≢ subject_of part) parts) → ⊥
mapped_in_parts parts c e apart =
    let canonical = ap (λ (o : Option (List ℕ)). is_some o || is_some (first_found (compatibility_in c) (map in_full parts))) (unsaid_mapping parts c apart) in
    let other = ap (λ (o : Option (List ℕ)). is_some o) (unsaid_compatibility parts c apart) in
    let none : is_mapped (map in_full parts) c ≡ false = canonical ∙ other in
    false≢true (sym none ∙ e)

begins-same : (lines others : List Record) (list : List ℕ) → SaysSame lines others → begins_with_mark others list ≡ begins_with_mark lines list
begins-same lines others [] same = refl
begins-same lines others (c ∷ cs) same = ap (λ (k : ℕ). not (k == 0)) (sym (class_of-same lines others c same))

IsBadList-same : (lines others : List Record) (list further : List ℕ) → SaysSame lines others → list ≡ further → IsBadList lines list → IsBadList others further
IsBadList-same lines others list further same e bad =
    subst (λ (l : List ℕ). IsBadList others l) e
    (⊎_elim (λ long. inl long) (λ marked. inr (begins-same lines others list same ∙ marked)) bad)

pub HasBadList-same : (lines others : List Record) → SaysSame lines others → HasBadList lines → HasBadList others
HasBadList-same lines others same bad =
    let c = bad.0 in (
      c,
      (
        subst (λ (o : Option (List ℕ)). IsTrue (is_some (first_found (mapping_in c) others) || is_some o)) (same.compatibilities c)
            (subst (λ (o : Option (List ℕ)). IsTrue (is_some o || is_some (first_found (compatibility_in c) lines))) (same.mappings c) bad.1.0),
        bad.1.1,
        ⊎_elim
            (λ canonical. inl (IsBadList-same lines others (full_of lines c) (full_of others c) same
            (ap (λ (step : ℕ → List ℕ). expanded step 0x110000 c) (fun_ext (λ d. step_of-same lines others d same))) canonical))
            (λ all. inr (IsBadList-same lines others (compatibility_full_of lines c) (compatibility_full_of others c) same
            (ap (λ (step : ℕ → List ℕ). expanded step 0x110000 c) (fun_ext (λ d. any_step-same lines others d same))) all))
            bad.1.2,
      ),
    )

pub HasBadList-none : HasBadList [] → ⊥
HasBadList-none bad = false≢true bad.1.0

-- where no part is on a badly mapped character, there is none
pub bad_none : (parts : List CanonicalPart) (i : ℕ) → length parts ≤ i
    → All (λ part. IsBadlyMapped (map in_full parts) (subject_of part) → ⊥) (take i parts) → HasBadList (map in_full parts) → ⊥
bad_none parts i past before bad =
    mapped_in_parts parts bad.0 bad.1.0 (none_of_all (λ c. IsBadlyMapped (map in_full parts) c) parts i past before bad.0 bad.1)

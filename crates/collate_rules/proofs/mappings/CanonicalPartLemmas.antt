-- Lines that say the same of classes and mappings.
use Rattle.std.proofs.Common.{◌≡◌, ◌≢◌, ℕ, List, [], ◌∷◌, ◌++◌, map, refl, sym, ap, ◌∙◌, subst, arith, Bool, false, Option, Some, None, cond, ◌+◌, ◌<◌, ◌≤◌, length, take, get_or, take_all}
use Rattle.std.specs.Option.{is_some, option_map, unwrap_or}
use Rattle.std.proofs.lemmas.List.{map-append}
use Rattle.std.proofs.lemmas.Grind.{common_steps}
use Rattle.std.specs.Bool.{IsTrue}
use Rattle.std.specs.List.{All}
use Rattle.std.proofs.lemmas.Bool.{false≢true}
use Rattle.std.proofs.lemmas.List.Elements.{All-head, All-more, All-tail, All-weaker}
use Rattle.collate_rules.specs.declared.canonical_part.CanonicalPart.{CanonicalPart}
use Rattle.collate_rules.specs.declared.canonical_part.CanonicalPart.TheVariants.{Class, Kmap, Map}
use Rattle.icu_normalizer_core.specs.BuiltIn.{built_in_class, built_in_step, built_in_compatibility_step, syllable_of, is_built_in}
use Rattle.collate_lines.specs.Record.{Record}
use Rattle.collate_rules.specs.Meaning.{class_in, mapping_in, compatibility_in, composed_in, first_found, class_of, step_of, compatibility_of, pair_of, else_mapped, any_step}
use Rattle.collate_rules.specs.CanonicalParts.{in_full, SaysSame, subject_of}
use Rattle.collate_rules.proofs.lookups.RuleLookupLemmas.{first_found-append, first_found-skip}

-- parts after parts say the same as the lines after the lines
pub SaysSame-append : (parts lines more others : List Record) → SaysSame parts lines → SaysSame more others → SaysSame (parts ++ more) (lines ++ others)
SaysSame-append parts lines more others first then = record {
  classes = λ c. let a = first.classes c in let b = then.classes c in
      let e = first_found-append (class_in c) parts more in let e' = first_found-append (class_in c) lines others in cc;
  mappings = λ c. let a = first.mappings c in let b = then.mappings c in
      let e = first_found-append (mapping_in c) parts more in let e' = first_found-append (mapping_in c) lines others in cc;
  compatibilities = λ c. let a = first.compatibilities c in let b = then.compatibilities c in
      let e = first_found-append (compatibility_in c) parts more in let e' = first_found-append (compatibility_in c) lines others in cc;
  pairs = λ a b. let h = first.pairs a b in let k = then.pairs a b in
      let e = first_found-append (composed_in a b) parts more in let e' = first_found-append (composed_in a b) lines others in cc;
}

pub class_of-same : (parts lines : List Record) (c : ℕ) → SaysSame parts lines → class_of parts c ≡ class_of lines c
class_of-same parts lines c same = ap (λ (o : Option ℕ). unwrap_or (built_in_class c) (unwrap_or o 0)) (same.classes c)

pub step_of-same : (parts lines : List Record) (c : ℕ) → SaysSame parts lines → step_of parts c ≡ step_of lines c
step_of-same parts lines c same =
    ap (λ (o : Option (List ℕ)). cond (is_built_in c) (unwrap_or (built_in_step c) []) (unwrap_or o [])) (same.mappings c)

pub any_step-same : (parts lines : List Record) (c : ℕ) → SaysSame parts lines → any_step parts c ≡ any_step lines c
any_step-same parts lines c same =
    let compatibility : compatibility_of parts c ≡ compatibility_of lines c = ap (λ (o : Option (List ℕ)). cond (is_built_in c) [] (unwrap_or o [])) (same.compatibilities c)
    in ap (λ (ds : List ℕ). unwrap_or (built_in_compatibility_step c) (else_mapped ds (compatibility_of parts c))) (step_of-same parts lines c same)
    ∙ ap (λ (es : List ℕ). unwrap_or (built_in_compatibility_step c) (else_mapped (step_of lines c) es)) compatibility

pub compatibility_of-same : (parts lines : List Record) (c : ℕ) → SaysSame parts lines → compatibility_of parts c ≡ compatibility_of lines c
compatibility_of-same parts lines c same = ap (λ (o : Option (List ℕ)). cond (is_built_in c) [] (unwrap_or o [])) (same.compatibilities c)

pub pair_of-same : (parts lines : List Record) (a b : ℕ) → SaysSame parts lines → pair_of parts a b ≡ pair_of lines a b
pair_of-same parts lines a b same =
    ap (λ (o : Option ℕ). elim (syllable_of a b) as (λ _. Option ℕ) [ Some c ↦ Some c | None ↦ o ]) (same.pairs a b)

-- a part says nothing of another character
pub other_class : (part : CanonicalPart) (c : ℕ) → c ≢ subject_of part → class_in c (in_full part) ≡ None
other_class (Class d k) c apart = grind (arith, common_steps)
other_class (Map d step x) c apart = refl
other_class (Kmap d step) c apart = refl

pub other_mapping : (part : CanonicalPart) (c : ℕ) → c ≢ subject_of part → mapping_in c (in_full part) ≡ None
other_mapping (Class d k) c apart = refl
other_mapping (Map d step x) c apart = grind (arith, common_steps)
other_mapping (Kmap d step) c apart = refl

pub other_compatibility : (part : CanonicalPart) (c : ℕ) → c ≢ subject_of part → compatibility_in c (in_full part) ≡ None
other_compatibility (Class d k) c apart = refl
other_compatibility (Map d step x) c apart = refl
other_compatibility (Kmap d step) c apart = grind (arith, common_steps)

-- where no part is on a character, none says anything of it
pub unsaid_class : (parts : List CanonicalPart) (c : ℕ) → All (λ part. c ≢ subject_of part) parts → first_found (class_in c) (map in_full parts) ≡ None
unsaid_class [] c apart = refl
unsaid_class (part ∷ parts) c apart =
    ap (λ (o : Option ℕ). elim o as (λ _. Option ℕ) [ Some y ↦ Some y | None ↦ first_found (class_in c) (map in_full parts) ]) (other_class part c (All-head (λ f. c ≢ subject_of f) part parts apart))
    ∙ unsaid_class parts c (All-tail (λ f. c ≢ subject_of f) part parts apart)

pub unsaid_mapping : (parts : List CanonicalPart) (c : ℕ) → All (λ part. c ≢ subject_of part) parts → first_found (mapping_in c) (map in_full parts) ≡ None
unsaid_mapping [] c apart = refl
unsaid_mapping (part ∷ parts) c apart =
    ap (λ (o : Option (List ℕ)). elim o as (λ _. Option (List ℕ)) [ Some y ↦ Some y | None ↦ first_found (mapping_in c) (map in_full parts) ]) (other_mapping part c (All-head (λ f. c ≢ subject_of f) part parts apart))
    ∙ unsaid_mapping parts c (All-tail (λ f. c ≢ subject_of f) part parts apart)

pub unsaid_compatibility : (parts : List CanonicalPart) (c : ℕ) → All (λ part. c ≢ subject_of part) parts → first_found (compatibility_in c) (map in_full parts) ≡ None
unsaid_compatibility [] c apart = refl
unsaid_compatibility (part ∷ parts) c apart =
    ap (λ (o : Option (List ℕ)). elim o as (λ _. Option (List ℕ)) [ Some y ↦ Some y | None ↦ first_found (compatibility_in c) (map in_full parts) ]) (other_compatibility part c (All-head (λ f. c ≢ subject_of f) part parts apart))
    ∙ unsaid_compatibility parts c (All-tail (λ f. c ≢ subject_of f) part parts apart)

-- a step of either kind: the built-in one, the canonical one, or the one by compatibility
pub any_step-built_in : (lines : List Record) (c : ℕ) (ds : List ℕ) → built_in_compatibility_step c ≡ Some ds → any_step lines c ≡ ds
any_step-built_in lines c ds e = ap (λ (o : Option (List ℕ)). unwrap_or o (else_mapped (step_of lines c) (compatibility_of lines c))) e

pub any_step-free : (lines : List Record) (c : ℕ) → built_in_compatibility_step c ≡ None → any_step lines c ≡ else_mapped (step_of lines c) (compatibility_of lines c)
any_step-free lines c e = ap (λ (o : Option (List ℕ)). unwrap_or o (else_mapped (step_of lines c) (compatibility_of lines c))) e

pub else_none : (ds es : List ℕ) → ds ≡ [] → else_mapped ds es ≡ es
else_none [] es e = refl
else_none (d ∷ ds) es e = absurd cc

pub else_some : (ds es : List ℕ) → ds ≢ [] → else_mapped ds es ≡ ds
else_some [] es some = absurd (some refl)
else_some (d ∷ ds) es some = refl

pub is_some-map : {A B : Type 0} (f : A → B) (o : Option A) → is_some (option_map f o) ≡ is_some o
is_some-map f None = refl
is_some-map f (Some x) = refl

pub first_found-other_class : (lines : List Record) (part : CanonicalPart) (c : ℕ) → c ≢ subject_of part
    → first_found (class_in c) (lines ++ in_full part ∷ []) ≡ first_found (class_in c) lines
first_found-other_class lines part c apart = first_found-skip (class_in c) lines (in_full part) (other_class part c apart)

pub first_found-other_mapping : (lines : List Record) (part : CanonicalPart) (c : ℕ) → c ≢ subject_of part
    → first_found (mapping_in c) (lines ++ in_full part ∷ []) ≡ first_found (mapping_in c) lines
first_found-other_mapping lines part c apart = first_found-skip (mapping_in c) lines (in_full part) (other_mapping part c apart)

pub first_found-other_compatibility : (lines : List Record) (part : CanonicalPart) (c : ℕ) → c ≢ subject_of part
    → first_found (compatibility_in c) (lines ++ in_full part ∷ []) ≡ first_found (compatibility_in c) lines
first_found-other_compatibility lines part c apart = first_found-skip (compatibility_in c) lines (in_full part) (other_compatibility part c apart)

pub SaysSame-sym : (parts lines : List Record) → SaysSame parts lines → SaysSame lines parts
SaysSame-sym parts lines same =
    record { classes = λ c. sym (same.classes c); mappings = λ c. sym (same.mappings c); compatibilities = λ c. sym (same.compatibilities c); pairs = λ a b. sym (same.pairs a b) }

-- the parts after one more
pub stated_push : (parts after : List CanonicalPart) (part : CanonicalPart) → after ≡ parts ++ part ∷ [] → map in_full after ≡ map in_full parts ++ in_full part ∷ []
stated_push parts after part e = ap (map in_full) e ∙ map-append in_full parts (part ∷ [])

pub SaysSame-itself : (lines : List Record) → SaysSame lines lines
SaysSame-itself lines = record { classes = λ c. refl; mappings = λ c. refl; compatibilities = λ c. refl; pairs = λ a b. refl }

-- no parts, and no lines
pub SaysSame-none : (parts : List CanonicalPart) → parts ≡ [] → SaysSame (map in_full parts) []
SaysSame-none parts e = subst (λ (l : List Record). SaysSame l []) (ap (map in_full) (sym e)) (SaysSame-itself [])

-- ---- Parts gone through one by one, in search of a character with P

-- where no part so far is on one, and the next part isn't, none up to the next is
pub none_of_more : (P : ℕ → Type 0) (parts : List CanonicalPart) (i : ℕ) (d : CanonicalPart) (c : ℕ) (b : Bool) → i < length parts
    → All (λ part. P (subject_of part) → ⊥) (take i parts) → c ≡ subject_of (get_or parts i d) → (P c → IsTrue b) → b ≡ false
    → All (λ part. P (subject_of part) → ⊥) (take (i + 1) parts)
none_of_more P parts i d c b within before e holds is_false =
    All-more (λ part. P (subject_of part) → ⊥) parts i d within before (subst (λ (n : ℕ). P n → ⊥) e (λ p. false≢true (sym is_false ∙ holds p)))

-- where no part at all is on one, no part is on any of them
pub none_of_all : (P : ℕ → Type 0) (parts : List CanonicalPart) (i : ℕ) → length parts ≤ i → All (λ part. P (subject_of part) → ⊥) (take i parts)
    → (c : ℕ) → P c → All (λ part. c ≢ subject_of part) parts
none_of_all P parts i past before c p =
    All-weaker (λ part. P (subject_of part) → ⊥) (λ part. c ≢ subject_of part) (λ part none same. none (subst P same p)) parts
    (subst (λ (l : List CanonicalPart). All (λ part. P (subject_of part) → ⊥) l) (take_all i parts past) before)

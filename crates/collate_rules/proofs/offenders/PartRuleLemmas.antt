-- The rules that classes and mappings break together: what a test tells once one more part stands last.
use Rattle.std.proofs.Common.{◌≡◌, ℕ, zero, suc, ◌+◌, ◌-◌, ◌<◌, take, true, sym, add-one, List, [], ◌∷◌, ◌++◌, length, map, ap, ◌∙◌, subst, arith, Bool, IsTrue, ◌↔◌, Result, Ok}
use Rattle.std.proofs.lemmas.List.{length-append, take-append-le, take-map, take-take, take_all}
use Rattle.std.proofs.lemmas.List.Elements.{All-take}
use Rattle.std.specs.List.{All}
use Rattle.collate_rules.specs.declared.canonical_part.CanonicalPart.{CanonicalPart}
use Rattle.collate_rules.specs.declared.canonical_parts.CanonicalParts.{CanonicalParts}
use Rattle.collate_lines.specs.declared.record.Record.{Record as Line}
use Rattle.collate_lines.specs.declared.rule.Rule.{Rule}
use Rattle.collate_lines.specs.Record.{Record, said}
use Rattle.collate_rules.specs.CanonicalParts.{in_full, AreOf, SaysSame}
use Rattle.collate_rules.specs.Breaches.{AnswersBreach, AnswersClear, AsksForSaid, Breach, TellsBreach, TellsClear, earlier}
use Rattle.collate_rules.proofs.mappings.CanonicalPartLemmas.{SaysSame-sym}

-- the parts before the last, after one more
pub earlier_push : (parts after : List CanonicalPart) (part : CanonicalPart) → after ≡ parts ++ part ∷ [] → earlier after ≡ parts
earlier_push parts after part e =
    let n : length after - 1 ≡ length parts = omega (arith, ap length e, length-append parts (part ∷ [])) in
    rw (n, e) (take-append-le (length parts) parts (part ∷ []) (omega arith) ∙ take_all (length parts) parts (omega arith))

pub told : {E : Type 0} (rule : Rule) (test : CanonicalParts → Result Bool E → Type 0) → TellsBreach rule test
    → (parts : List CanonicalPart) (after : CanonicalParts) (part : CanonicalPart) (answer : Result Bool E) (b : Bool) → after.list.items ≡ parts ++ part ∷ []
    → test after answer → answer ≡ Ok b → (Breach rule (map in_full parts) → ⊥) → IsTrue b ↔ Breach rule (map in_full after.list.items)
told {E} rule test tells parts after part answer b e tested is unbroken =
    let P : Result Bool E → Type 0 = AnswersBreach rule after.list.items in
    subst P is (tells.tells after answer tested) (λ breach. unbroken (subst (λ (l : List CanonicalPart). Breach rule (map in_full l)) (earlier_push parts after.list.items part e) breach))

-- where a certificate clears what lines say, no beginning of the lines breaks the rule
pub cleared : {E : Type 0} (rule : Rule) (test : CanonicalParts → Result Bool E → Type 0) → TellsClear rule test → AsksForSaid rule
    → (parts : CanonicalParts) (lines : List Record) (answer : Result Bool E) (b : Bool) → AreOf parts.list.items lines
    → test parts answer → answer ≡ Ok b → b ≡ true → (k : ℕ) → Breach rule (take k lines) → ⊥
cleared {E} rule test tells asks parts lines answer b of tested is set k breach =
    let P : Result Bool E → Type 0 = AnswersClear rule parts.list.items in
    let clear : (n : ℕ) → Breach rule (map in_full (take n parts.list.items)) → ⊥ = subst P is (tells.tells parts answer tested) set in
    let begun = of.beginnings k in
    clear begun.0 (asks (take k lines) (map in_full (take begun.0 parts.list.items)) (SaysSame-sym (map in_full (take begun.0 parts.list.items)) (take k lines) begun.2) breach)

-- the same of some lines among others
pub cleared_front : {E : Type 0} (rule : Rule) (test : CanonicalParts → Result Bool E → Type 0) → TellsClear rule test → AsksForSaid rule
    → (parts : CanonicalParts) (lines front : List Line) (n : ℕ) (answer : Result Bool E) (b : Bool) → front ≡ take n lines → AreOf parts.list.items (map said front)
    → test parts answer → answer ≡ Ok b → b ≡ true → (k : ℕ) → k < n → Breach rule (take (k + 1) (map said lines)) → ⊥
cleared_front rule test tells asks parts lines front n answer b e of tested is set k below breach =
    let same : take (k + 1) (map said front) ≡ take (k + 1) (map said lines) =
    take-map said (k + 1) front ∙ ap (λ (l : List Line). map said (take (k + 1) l)) e
    ∙ ap (map said) (take-take (k + 1) n lines (omega arith)) ∙ sym (take-map said (k + 1) lines) in
    cleared rule test tells asks parts (map said front) answer b of tested is set (k + 1) (subst (Breach rule) (sym same) breach)

-- what the first so many lines say breaks no rule that none of their beginnings does
pub unbroken_front : (rule : Rule) → AsksForSaid rule → (Breach rule [] → ⊥) → (parts : List CanonicalPart) (lines front : List Line) (n : ℕ) → front ≡ take n lines
    → ((k : ℕ) → k < n → Breach rule (take (k + 1) (map said lines)) → ⊥) → SaysSame (map in_full parts) (map said front) → Breach rule (map in_full parts) → ⊥
unbroken_front rule asks none parts lines front zero e before same breach =
    none (subst (λ (l : List Line). Breach rule (map said l)) e (asks (map in_full parts) (map said front) same breach))
unbroken_front rule asks none parts lines front (suc n) e before same breach =
    let whole : map said front ≡ take (n + 1) (map said lines) =
    ap (map said) e ∙ sym (take-map said (suc n) lines) ∙ ap (λ (m : ℕ). take m (map said lines)) (sym (add-one n)) in
    before n (omega arith) (subst (Breach rule) whole (asks (map in_full parts) (map said front) same breach))

-- what holds of each line holds of each of the first so many
pub All-front : (P : Record → Type 0) (lines front : List Line) (n : ℕ) → front ≡ take n lines → All P (map said lines) → All P (map said front)
All-front P lines front n e all =
    subst (λ (l : List Record). All P l) (take-map said n lines ∙ ap (map said) (sym e)) (All-take P n (map said lines) all)

-- A breach that the lines up to line i make together: line i is the first that offends, or no line up to it offends.
use Rattle.std.proofs.Common.{◌≡◌, ℕ, ◌+◌, ◌<◌, ◌≤◌, List, [], ◌∷◌, ◌++◌, length, get_or, map, take, sym, ap, ◌∙◌, subst, arith, below_more, append-nil, take_all, ⊎_elim}
use Rattle.std.proofs.lemmas.Bool.{cases_lt}
use Rattle.std.proofs.lemmas.List.{take-map, map_more, length-map}
use Rattle.collate_lines.specs.declared.record.Record.{Record as Line}
use Rattle.collate_lines.specs.Record.{Record, said}
use Rattle.collate_rules.specs.declared.canonical_part.CanonicalPart.{CanonicalPart}
use Rattle.collate_rules.specs.CanonicalParts.{in_full, SaysSame}
use Rattle.collate_rules.proofs.mappings.CanonicalPartLemmas.{SaysSame-append, SaysSame-sym, stated_push}

-- what the lines up to line i say, with line i read as x
up_to : (lines : List Line) (i : ℕ) (x : Line) → i < length lines → x ≡ get_or lines i x
    → take (i + 1) (map said lines) ≡ map said (take i lines) ++ said x ∷ []
up_to lines i x within read =
    take-map said (i + 1) lines ∙ map_more said lines i x within ∙ ap (λ (y : Line). map said (take i lines) ++ said y ∷ []) (sym read)

pub first_breach : (P : List Record → Type 0) (lines : List Line) (i : ℕ) (x : Line)
    → ((k : ℕ) → k < i → P (take (k + 1) (map said lines)) → ⊥)
    → i < length lines → x ≡ get_or lines i x → P (map said (take i lines) ++ said x ∷ [])
    → (i < length (map said lines)) × P (take (i + 1) (map said lines)) × ((k : ℕ) → k < i → P (take (k + 1) (map said lines)) → ⊥)
first_breach P lines i x before within read breach =
    (omega (arith, length-map lines said), subst P (sym (up_to lines i x within read)) breach, before)

pub none_more : (P : List Record → Type 0) (lines : List Line) (i : ℕ) (x : Line)
    → ((k : ℕ) → k < i → P (take (k + 1) (map said lines)) → ⊥)
    → i < length lines → x ≡ get_or lines i x → (P (map said (take i lines) ++ said x ∷ []) → ⊥)
    → (k : ℕ) → k < i + 1 → P (take (k + 1) (map said lines)) → ⊥
none_more P lines i x before within read unbroken =
    below_more (λ k. P (take (k + 1) (map said lines)) → ⊥) i before (λ breach. unbroken (subst P (up_to lines i x within read) breach))

pub none_at_end : (P : List Record → Type 0) (lines : List Line) (i : ℕ)
    → ((k : ℕ) → k < i → P (take (k + 1) (map said lines)) → ⊥) → length lines ≤ i
    → (k : ℕ) → k < length (map said lines) → P (take (k + 1) (map said lines)) → ⊥
none_at_end P lines i before past k h = before k (omega (arith, length-map lines said))

-- where no lines up to a last one make a breach, all lines make none
pub none_together : (P : List Record → Type 0) → (P [] → ⊥) → (records : List Record) → ((i : ℕ) → i < length records → P (take (i + 1) records) → ⊥) → P records → ⊥
none_together P none [] keeps = none
none_together P none (s ∷ ss) keeps = subst (λ lines. P lines → ⊥) (take_all (length ss + 1) (s ∷ ss) (omega arith)) (keeps (length ss) (omega arith))

-- where no lines up to a last one count more than so many, all lines count no more
pub none_over_together : (count : List Record → ℕ) (limit : ℕ) → count [] ≤ limit → (records : List Record) → ((i : ℕ) → i < length records → limit < count (take (i + 1) records) → ⊥) → count records ≤ limit
none_over_together count limit none records keeps =
    ⊎_elim (λ (past : limit < count records). absurd (none_together (λ lines. limit < count lines) (λ more. omega arith) records keeps past))
    (λ (within : count records ≤ limit). within) (cases_lt limit (count records))

-- parts that say what the lines up to line i say
pub same_up_to : (parts more : List Record) (lines : List Line) (i : ℕ) (x : Line) → i < length lines → x ≡ get_or lines i x
    → SaysSame parts (map said (take i lines)) → SaysSame more (said x ∷ []) → SaysSame (parts ++ more) (map said (take (i + 1) lines))
same_up_to parts more lines i x within read same then =
    subst (λ (s : List Record). SaysSame (parts ++ more) s) (sym (sym (take-map said (i + 1) lines) ∙ up_to lines i x within read))
    (SaysSame-append parts (map said (take i lines)) more (said x ∷ []) same then)

-- A breach that depends on no more than classes and mappings, and parts that say what the lines before line i say: one part
-- more, which line i says, makes the breach,
pub breach_at : (P : List Record → Type 0) → ((parts others : List Record) → SaysSame parts others → P parts → P others)
    → (parts after : List CanonicalPart) (part : CanonicalPart) (lines : List Line) (i : ℕ) (x : Line)
    → ((k : ℕ) → k < i → P (take (k + 1) (map said lines)) → ⊥) → i < length lines → x ≡ get_or lines i x
    → SaysSame (map in_full parts) (map said (take i lines)) → SaysSame (in_full part ∷ []) (said x ∷ [])
    → after ≡ parts ++ part ∷ [] → P (map in_full after)
    → (i < length (map said lines)) × P (take (i + 1) (map said lines)) × ((k : ℕ) → k < i → P (take (k + 1) (map said lines)) → ⊥)
breach_at P respects parts after part lines i x before within read same then e breach =
    first_breach P lines i x before within read
    (respects _ _ (SaysSame-append _ _ _ _ same then) (subst P (stated_push parts after part e) breach))

-- or doesn't make it,
pub unbroken_at : (P : List Record → Type 0) → ((parts others : List Record) → SaysSame parts others → P parts → P others)
    → (parts after : List CanonicalPart) (part : CanonicalPart) (lines : List Line) (i : ℕ) (x : Line)
    → ((k : ℕ) → k < i → P (take (k + 1) (map said lines)) → ⊥) → i < length lines → x ≡ get_or lines i x
    → SaysSame (map in_full parts) (map said (take i lines)) → SaysSame (in_full part ∷ []) (said x ∷ [])
    → after ≡ parts ++ part ∷ [] → (P (map in_full after) → ⊥)
    → SaysSame (map in_full after) (map said (take (i + 1) lines)) × ((k : ℕ) → k < i + 1 → P (take (k + 1) (map said lines)) → ⊥)
unbroken_at P respects parts after part lines i x before within read same then e unbroken =
    let both = SaysSame-append _ _ _ _ same then in
    let back = sym (stated_push parts after part e) in
    let after_same : SaysSame (map in_full after) (map said (take i lines) ++ said x ∷ []) =
    subst (λ (s : List Record). SaysSame s (map said (take i lines) ++ said x ∷ [])) back both in (
      subst (λ (s : List Record). SaysSame s (map said (take (i + 1) lines))) back (same_up_to _ _ lines i x within read same then),
      none_more P lines i x before within read (λ breach. unbroken (respects _ _ (SaysSame-sym _ _ after_same) breach)),
    )

-- or line i says no part.
pub unbroken_past : (P : List Record → Type 0) → ((parts others : List Record) → SaysSame parts others → P parts → P others)
    → (parts : List CanonicalPart) (lines : List Line) (i : ℕ) (x : Line)
    → ((k : ℕ) → k < i → P (take (k + 1) (map said lines)) → ⊥) → i < length lines → x ≡ get_or lines i x
    → SaysSame (map in_full parts) (map said (take i lines)) → SaysSame [] (said x ∷ [])
    → (P (map in_full parts) → ⊥)
    → SaysSame (map in_full parts) (map said (take (i + 1) lines)) × ((k : ℕ) → k < i + 1 → P (take (k + 1) (map said lines)) → ⊥)
unbroken_past P respects parts lines i x before within read same then unbroken =
    let both = SaysSame-append _ _ _ _ same then in
    let whole : map in_full parts ++ [] ≡ map in_full parts = append-nil (map in_full parts) in
    let now : SaysSame (map in_full parts) (map said (take i lines) ++ said x ∷ []) =
    subst (λ (s : List Record). SaysSame s (map said (take i lines) ++ said x ∷ [])) whole both in (
      subst (λ (s : List Record). SaysSame s (map said (take (i + 1) lines))) whole (same_up_to _ _ lines i x within read same then),
      none_more P lines i x before within read (λ breach. unbroken (respects _ _ (SaysSame-sym _ _ now) breach)),
    )

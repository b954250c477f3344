-- Parts that say what lines say, one line after another.
use Rattle.std.proofs.Common.{◌≡◌, ℕ, ◌+◌, ◌<◌, ◌≤◌, List, [], ◌∷◌, ◌++◌, length, get_or, map, take, refl, sym, ap, ◌∙◌, subst, arith, append-nil, take_all, ⊎_elim}
use Rattle.std.proofs.lemmas.Bool.{cases_lt}
use Rattle.std.proofs.lemmas.List.{length-append, map_more, take-append-le}
use Rattle.collate_lines.specs.declared.record.Record.{Record as Line}
use Rattle.collate_lines.specs.Record.{Record, said}
use Rattle.collate_rules.specs.declared.canonical_part.CanonicalPart.{CanonicalPart}
use Rattle.collate_rules.specs.CanonicalParts.{in_full, AreOf, SaysSame}
use Rattle.collate_rules.proofs.mappings.CanonicalPartLemmas.{SaysSame-append, SaysSame-itself, stated_push}

-- what a beginning of parts says of a beginning of lines
abbrev IsBegun : List CanonicalPart → List Record → ℕ → Type 0
IsBegun parts lines k = (j : ℕ) × (j ≤ length parts) × SaysSame (map in_full (take j parts)) (take k lines)

-- none of either
pub AreOf-none : (parts : List CanonicalPart) → parts ≡ [] → AreOf parts []
AreOf-none parts e =
    subst (λ (ps : List CanonicalPart). AreOf ps []) (sym e)
    (record {
      whole = SaysSame-itself [];
      beginnings = λ k. (0, omega arith, subst (λ (ls : List Record). SaysSame [] ls) (sym (take_all k [] (omega arith))) (SaysSame-itself []));
    })

-- no more of the lines than there are is begun as before
begun_before : (parts after : List CanonicalPart) (lines others more : List Record) (k : ℕ) → (rest : List CanonicalPart) → after ≡ parts ++ rest → others ≡ lines ++ more → k ≤ length lines
    → IsBegun parts lines k → IsBegun after others k
begun_before parts after lines others more k rest e f within (j, fits, same) = (
  j,
  omega (arith, ap length e, length-append parts rest),
  subst (λ (ls : List Record). SaysSame (map in_full (take j after)) ls) (sym (ap (take k) f ∙ take-append-le k lines more within))
      (subst (λ (ps : List CanonicalPart). SaysSame (map in_full ps) (take k lines)) (sym (ap (take j) e ∙ take-append-le j parts rest fits)) same),
)

-- all lines are begun by all parts
begun_whole : (parts : List CanonicalPart) (lines : List Record) (k : ℕ) → length lines ≤ k → SaysSame (map in_full parts) lines → IsBegun parts lines k
begun_whole parts lines k past same = (
  length parts,
  omega arith,
  subst (λ (ls : List Record). SaysSame (map in_full (take (length parts) parts)) ls) (sym (take_all k lines past))
      (subst (λ (ps : List CanonicalPart). SaysSame (map in_full ps) lines) (sym (take_all (length parts) parts (omega arith))) same),
)

begun_next : (parts after : List CanonicalPart) (lines others : List Record) (line : Record) (rest : List CanonicalPart) (k : ℕ) → after ≡ parts ++ rest → others ≡ lines ++ line ∷ []
    → AreOf parts lines → SaysSame (map in_full after) others → IsBegun after others k
begun_next parts after lines others line rest k e f of same =
    ⊎_elim
    (λ (past : length lines < k). begun_whole after others k (omega (arith, ap length f, length-append lines (line ∷ []))) same)
    (λ (within : k ≤ length lines). begun_before parts after lines others (line ∷ []) k rest e f within (of.beginnings k))
    (cases_lt (length lines) k)

-- one line more says one part more,
pub AreOf-push : (parts after : List CanonicalPart) (part : CanonicalPart) (lines : List Record) (line : Record) → after ≡ parts ++ part ∷ []
    → SaysSame (in_full part ∷ []) (line ∷ []) → AreOf parts lines → AreOf after (lines ++ line ∷ [])
AreOf-push parts after part lines line e says of =
    let same : SaysSame (map in_full after) (lines ++ line ∷ []) =
    subst (λ (ls : List Record). SaysSame ls (lines ++ line ∷ [])) (sym (stated_push parts after part e)) (SaysSame-append _ _ _ _ of.whole says) in
    record { whole = same; beginnings = λ k. begun_next parts after lines (lines ++ line ∷ []) line (part ∷ []) k e refl of same }

-- or none
pub AreOf-skip : (parts : List CanonicalPart) (lines : List Record) (line : Record) → SaysSame [] (line ∷ []) → AreOf parts lines → AreOf parts (lines ++ line ∷ [])
AreOf-skip parts lines line says of =
    let same : SaysSame (map in_full parts) (lines ++ line ∷ []) =
    subst (λ (ls : List Record). SaysSame ls (lines ++ line ∷ [])) (append-nil (map in_full parts)) (SaysSame-append _ _ _ _ of.whole says) in
    record { whole = same; beginnings = λ k. begun_next parts parts lines (lines ++ line ∷ []) line [] k (sym (append-nil parts)) refl of same }

-- the same of the lines up to one
pub AreOf-to : (parts : List CanonicalPart) (lines : List Line) (i : ℕ) (x : Line) → i < length lines → x ≡ get_or lines i x
    → AreOf parts (map said (take i lines) ++ said x ∷ []) → AreOf parts (map said (take (i + 1) lines))
AreOf-to parts lines i x within read of =
    subst (AreOf parts) (sym (map_more said lines i x within ∙ ap (λ (y : Line). map said (take i lines) ++ said y ∷ []) (sym read))) of

-- What line i says, and the rules that look at one line.
use Rattle.std.proofs.Common.{◌≡◌, ℕ, ◌<◌, List, length, get_or, map, sym, ap, ◌∙◌, subst, arith, Option, Some, None, MatchOption, HoldsAt, All}
use Rattle.std.specs.List.{AllWithin}
use Rattle.std.specs.Option.{unwrap_or, option_map}
use Rattle.std.proofs.lemmas.Option.{slice_get-map, slice_get-get_or, unwrap_or-slice_get}
use Rattle.std.proofs.lemmas.List.{length-map}
use Rattle.std.proofs.lemmas.List.Elements.{All-from_get_or}
use Rattle.collate_lines.specs.declared.record.Record.{Record as Line}
use Rattle.collate_lines.specs.declared.record.Record.TheVariants.{Nothing}
use Rattle.collate_lines.specs.Record.{Record, nothing, said}
use Rattle.collate_lines.specs.Repeats.{record_at}

-- what holds of every line by its index holds of all
pub each_line : (P : Record → Type 0) (records : List Record) → ((i : ℕ) → i < length records → P (record_at records i)) → All P records
each_line P records each =
    All-from_get_or P records nothing (λ i lt. subst P (unwrap_or-slice_get records i nothing) (each i lt))

pub record_at-said : (lines : List Line) (i : ℕ) (d : Line) → i < length lines → record_at (map said lines) i ≡ said (get_or lines i d)
record_at-said lines i d h =
    ap (λ (o : Option Record). unwrap_or o nothing)
    (slice_get-map said lines i ∙ ap (λ (o : Option Line). option_map said o) (slice_get-get_or lines i d h))

-- Of the lines as they were read, the first for which a test answers yes: line i is the first of which Q holds, or it holds
-- of none.
pub first_by_test : (Q : Record → Type 0) (lines : List Line) (r : Option ℕ)
    → MatchOption r (AllWithin (λ x. Q (said x) → ⊥) lines 0 (length lines)) (λ i. (i < length lines) × HoldsAt (λ x. Q (said x)) lines i × AllWithin (λ x. Q (said x) → ⊥) lines 0 i)
    → MatchOption r ((i : ℕ) → i < length (map said lines) → Q (record_at (map said lines) i) → ⊥)
    (λ i. (i < length (map said lines)) × Q (record_at (map said lines) i) × ((k : ℕ) → k < i → Q (record_at (map said lines) k) → ⊥))
first_by_test Q lines None none = λ i h q.
    let within : i < length lines = omega (arith, length-map lines said) in
    none i Nothing (omega arith) within (subst Q (record_at-said lines i Nothing within) q)
first_by_test Q lines (Some i) first = (
  omega (arith, length-map lines said, first.0),
  subst Q (sym (record_at-said lines i Nothing first.0)) (first.1 Nothing),
  λ k below q. let within = first.0 in let earlier : k < length lines = omega arith in first.2 k Nothing (omega arith) below (subst Q (record_at-said lines k Nothing earlier) q),
)

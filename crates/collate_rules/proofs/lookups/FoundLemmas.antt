-- the line where something is found first
use Rattle.std.proofs.Common.{◌≡◌, ℕ, suc, ◌<◌, ◌==◌, List, [], ◌∷◌, length, Bool, Option, Some, None, refl, ◌∙◌, arith}
use Rattle.std.proofs.lemmas.Bool.{eqb-true}
use Rattle.std.proofs.lemmas.Option.{cond_some, none-some}
use Rattle.collate_lines.specs.Record.{Record, nothing, class, mapping, compatibility, weights, range, digit, setting}
use Rattle.collate_rules.specs.Meaning.{first_found, class_in, mapping_in}
use Rattle.collate_lines.specs.Repeats.{record_at}

module _ {B : Type 0} (f : Record → Option B) where
  -- a line says it
  abbrev IsFoundAt : List Record → B → Type 0
  IsFoundAt records y = (i : ℕ) × (i < length records) × (f (record_at records i) ≡ Some y)

  found_by_head : (s : Record) (records : List Record) (y : B) → (first_found f records ≡ Some y → IsFoundAt records y)
      → (o : Option B) → f s ≡ o → (elim o [ Some z ↦ Some z | None ↦ first_found f records ]) ≡ Some y → IsFoundAt (s ∷ records) y
  found_by_head s records y later (Some z) e found = (0, omega arith, e ∙ found)
  found_by_head s records y later None e found = let w = later found in (suc w.0, omega (arith, w.1), w.2)

  pub found_at : (records : List Record) (y : B) → first_found f records ≡ Some y → IsFoundAt records y
  found_at [] y e = absurd (none-some y e)
  found_at (s ∷ records) y e = found_by_head s records y (found_at records y) (f s) refl e

class_in-some : (c k : ℕ) (s : Record) → class_in c s ≡ Some k → s ≡ class c k
class_in-some c k nothing e = absurd (none-some k e)
class_in-some c k (class d l) e = let w = cond_some (c == d) l k e in let same : c ≡ d = eqb-true c d w.0 in let equal : l ≡ k = w.1 in cc
class_in-some c k (mapping d ds x) e = absurd (none-some k e)
class_in-some c k (compatibility d ds) e = absurd (none-some k e)
class_in-some c k (weights l p t es) e = absurd (none-some k e)
class_in-some c k (range r) e = absurd (none-some k e)
class_in-some c k (digit d v) e = absurd (none-some k e)
class_in-some c k (setting s) e = absurd (none-some k e)

mapping_in-some : (c : ℕ) (ds : List ℕ) (s : Record) → mapping_in c s ≡ Some ds → (x : Bool) × (s ≡ mapping c ds x)
mapping_in-some c ds nothing e = absurd (none-some ds e)
mapping_in-some c ds (class d l) e = absurd (none-some ds e)
mapping_in-some c ds (mapping d es x) e = let w = cond_some (c == d) es ds e in let same : c ≡ d = eqb-true c d w.0 in let equal : es ≡ ds = w.1 in (x, cc)
mapping_in-some c ds (compatibility d es) e = absurd (none-some ds e)
mapping_in-some c ds (weights l p t es) e = absurd (none-some ds e)
mapping_in-some c ds (range r) e = absurd (none-some ds e)
mapping_in-some c ds (digit d v) e = absurd (none-some ds e)
mapping_in-some c ds (setting s) e = absurd (none-some ds e)

-- the line that gives a class
pub class_line : (records : List Record) (c k : ℕ) → first_found (class_in c) records ≡ Some k → (i : ℕ) × (i < length records) × (record_at records i ≡ class c k)
class_line records c k e = let w = found_at (class_in c) records k e in (w.0, w.1, class_in-some c k (record_at records w.0) w.2)

-- the line that gives a mapping
pub mapping_line : (records : List Record) (c : ℕ) (ds : List ℕ) → first_found (mapping_in c) records ≡ Some ds
    → (i : ℕ) × (x : Bool) × (i < length records) × (record_at records i ≡ mapping c ds x)
mapping_line records c ds e =
    let w = found_at (mapping_in c) records ds e in
    let m = mapping_in-some c ds (record_at records w.0) w.2 in
    (w.0, m.0, w.1, m.1)

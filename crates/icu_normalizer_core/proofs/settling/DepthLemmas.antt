-- Triples settled by a walk in depth.
use Rattle.std.proofs.Common.{◌≡◌, ℕ, zero, suc, ◌+◌, ◌*◌, ◌/◌, ◌<◌, List, [], ◌∷◌, ◌++◌, length, set, slice_get, Bool, true, false, Option, Some, refl, ap, sym, ◌∙◌, arith}
use Rattle.std.specs.List.{All}
use Rattle.std.proofs.lemmas.Bool.{false≢true}
use Rattle.std.proofs.lemmas.List.{length-append}
use Rattle.std.proofs.lemmas.List.Elements.{All-push, All-pop}
use Rattle.std.proofs.lemmas.Option.{none-some, same_Some}
use Rattle.icu_normalizer_core.specs.declared.canonical.check.left.Left.{Left}
use Rattle.icu_normalizer_core.specs.Settled.{AreStarts}
use Rattle.icu_normalizer_core.proofs.settling.SettlingLemmas.{got_inside, written_length}

-- how many triples aren't visited
unfoldable pub unvisited_count : List Bool → ℕ
unvisited_count [] = 0
unvisited_count (false ∷ rest) = suc (unvisited_count rest)
unvisited_count (true ∷ rest) = unvisited_count rest

pub one_visited : (visited : List Bool) (i : ℕ) → slice_get visited i ≡ Some false → suc (unvisited_count (set visited i true)) ≡ unvisited_count visited
unfolding unvisited_count
one_visited [] i e = absurd (none-some false e)
one_visited (false ∷ rest) zero e = refl
one_visited (true ∷ rest) zero e = absurd (false≢true (sym (same_Some true false e)))
one_visited (false ∷ rest) (suc i) e = ap suc (one_visited rest i e)
one_visited (true ∷ rest) (suc i) e = one_visited rest i e

-- how many more looks a walk can take: two at a triple that isn't visited, and one at each on the way
abbrev pub looks_left : List Bool → List ℕ → ℕ
looks_left visited path = 2 * unvisited_count visited + length path

-- a walk: what is settled is right, each triple has its mark, and on the way are indices of triples
pub record IsWalk (steps : List ℕ) (settled : List (Option Left)) (visited : List Bool) (path : List ℕ) : Type 0 where
  pub starts : AreStarts steps settled
  pub marks : length visited ≡ length steps / 3
  pub indices : All (λ index. 3 * index + 2 < length steps) path

-- an index is left, and what is settled may change
pub walk_popped : (steps : List ℕ) (old new : List (Option Left)) (visited : List Bool) (path rest : List ℕ) (index : ℕ) → path ≡ rest ++ index ∷ []
    → IsWalk steps old visited path → AreStarts steps new → (3 * index + 2 < length steps) × IsWalk steps new visited rest
walk_popped steps old new visited path rest index e w starts =
    let parts = All-pop (λ (p : ℕ). 3 * p + 2 < length steps) path rest (Some index) e w.indices in
    (parts.1, record { starts = starts; marks = w.marks; indices = parts.0 })

-- one that isn't visited is put above it
pub walk_pushed : (steps : List ℕ) (settled : List (Option Left)) (visited : List Bool) (rest : List ℕ) (index needed : ℕ)
    → IsWalk steps settled visited rest → 3 * index + 2 < length steps → slice_get visited needed ≡ Some false
    → IsWalk steps settled (set visited needed true) ((rest ++ index ∷ []) ++ needed ∷ [])
walk_pushed steps settled visited rest index needed w h e =
    let inside = got_inside visited needed false e in
    let marks = w.marks in
    let there : 3 * needed + 2 < length steps = omega arith in
    record {
      starts = w.starts;
      marks = written_length visited needed true ∙ w.marks;
      indices = All-push (λ (p : ℕ). 3 * p + 2 < length steps) (rest ++ index ∷ []) needed (All-push (λ (p : ℕ). 3 * p + 2 < length steps) rest index w.indices h) there;
    }

-- and leaves it fewer looks
pub fewer_pushed : (visited : List Bool) (path rest : List ℕ) (index needed : ℕ) → path ≡ rest ++ index ∷ [] → slice_get visited needed ≡ Some false
    → looks_left (set visited needed true) ((rest ++ index ∷ []) ++ needed ∷ []) < looks_left visited path
fewer_pushed visited path rest index needed e unvisited =
    let n = length-append rest (index ∷ []) in
    let m = ap (λ (xs : List ℕ). length xs) e in
    let k = length-append (rest ++ index ∷ []) (needed ∷ []) in
    let u = one_visited visited needed unvisited in
    omega arith

-- Triples settled one after another, until no more can be.
use Rattle.std.proofs.Common.{◌≡◌, ◌≢◌, ℕ, zero, suc, ◌+◌, ◌*◌, ◌/◌, ◌<◌, ◌≤◌, ◌⊎◌, inl, inr, ⊎_elim, List, [], ◌∷◌, ◌++◌, length, take, drop, set, slice_index, slice_get, get_or, Bool, Option, None, Some, ◌==◌, true, false, refl, sym, ap, subst, ◌∙◌, arith}
use Rattle.std.proofs.lemmas.Bool.{cases_eq, cases_lt, ne_eqb, false≢true, cond-true, cond-false}
use Rattle.std.specs.Option.{is_some}
use Rattle.std.proofs.lemmas.Bool.Decides.{eqb_tells}
use Rattle.std.proofs.Math.Seq.{take-append_seam}
use Rattle.std.proofs.lemmas.Option.{none-some, same_Some}
use Rattle.icu_normalizer_core.specs.declared.canonical.check.left.Left.{Left}
use Rattle.icu_normalizer_core.specs.Canonical.{Leaves, nothing, unmapped, mapped, IsFree}
use Rattle.icu_normalizer_core.specs.CanonicalLists.{step_in, mapping, AreTriples}
use Rattle.icu_normalizer_core.specs.Settled.{IsStartOf, AreStarts, IsAmong, IsStuck, HasStuck, IsDone, key_at, mapping_of, open_count}
use Rattle.icu_normalizer_core.proofs.settling.TripleLemmas.{listed_of}
use Rattle.icu_normalizer_core.proofs.accepted.TableMeanings.{step_in_free}
use Rattle.icu_normalizer_core.proofs.settling.SettledLemmas.{start_mapped}

-- ---- Writes

pub got_same : {X : Type 0} (xs : List X) (i : ℕ) (y : X) → i < length xs → slice_get (set xs i y) i ≡ Some y
got_same [] i y h = absurd (omega arith)
got_same (x ∷ xs) zero y h = refl
got_same (x ∷ xs) (suc i) y h = got_same xs i y (omega arith)

pub got_other : {X : Type 0} (xs : List X) (i j : ℕ) (y : X) → j ≢ i → slice_get (set xs i y) j ≡ slice_get xs j
got_other [] i j y ne = refl
got_other (x ∷ xs) zero zero y ne = absurd (ne refl)
got_other (x ∷ xs) zero (suc j) y ne = refl
got_other (x ∷ xs) (suc i) zero y ne = refl
got_other (x ∷ xs) (suc i) (suc j) y ne = got_other xs i j y (λ e. ne (ap suc e))

pub none_inside : {X : Type 0} (xs : List X) (i : ℕ) → i < length xs → slice_get xs i ≡ None → ⊥
none_inside [] i h e = omega arith
none_inside (x ∷ xs) zero h e = absurd cc
none_inside (x ∷ xs) (suc i) h e = none_inside xs i (omega arith) e

pub got_inside : {X : Type 0} (xs : List X) (i : ℕ) (x : X) → slice_get xs i ≡ Some x → i < length xs
got_inside [] i x e = absurd (none-some x e)
got_inside (y ∷ xs) zero x e = omega arith
got_inside (y ∷ xs) (suc i) x e = let h = got_inside xs i x e in omega arith

pub written_length : {X : Type 0} (xs : List X) (i : ℕ) (y : X) → length (set xs i y) ≡ length xs
written_length [] i y = refl
written_length (x ∷ xs) zero y = refl
written_length (x ∷ xs) (suc i) y = ap suc (written_length xs i y)

pub fewer_open : (xs : List (Option Left)) (i : ℕ) (left : Left) → slice_get xs i ≡ Some None → open_count (set xs i (Some left)) < open_count xs
unfolding open_count
fewer_open [] i left e = absurd (none-some None e)
fewer_open (None ∷ xs) zero left e = omega arith
fewer_open (Some other ∷ xs) zero left e = absurd (none-some other (sym (same_Some (Some other) None e)))
fewer_open (None ∷ xs) (suc i) left e = let h = fewer_open xs i left e in omega arith
fewer_open (Some other ∷ xs) (suc i) left e = fewer_open xs i left e

-- ---- What is written is right

-- the mapping of a triple whose character has no built-in one
key_step : (steps : List ℕ) (i : ℕ) → AreTriples steps → 3 * i + 2 < length steps → IsFree (key_at steps i) → step_in steps (key_at steps i) ≡ mapping_of steps i
key_step steps i t h free = step_in_free steps (key_at steps i) free ∙ listed_of steps (key_at steps i) i t (h, refl)

mapping_cases : (a b : ℕ) → (mapping a b ≡ a ∷ []) ⊎ (mapping a b ≡ a ∷ b ∷ [])
mapping_cases a b =
    ⊎_elim (λ w. inl (cond-true (b == 0x110000) (a ∷ []) (a ∷ b ∷ []) w.0)) (λ w. inr (cond-false (b == 0x110000) (a ∷ []) (a ∷ b ∷ []) w.0)) (eqb_tells b 0x110000)

start_of_key : (steps : List ℕ) (i : ℕ) (left : Left) → AreTriples steps → 3 * i + 2 < length steps → IsFree (key_at steps i)
    → IsStartOf steps (mapping_of steps i) left → IsStartOf steps (key_at steps i ∷ []) left
start_of_key steps i left t h free s =
    let a : ℕ = slice_index steps (3 * i + 1) in
    let b : ℕ = slice_index steps (3 * i + 2) in
    let leads = key_step steps i t h free in
    ⊎_elim
    (λ e. start_mapped steps (key_at steps i) a [] left (leads ∙ e) (subst (λ (text : List ℕ). IsStartOf steps text left) e s))
    (λ e. start_mapped steps (key_at steps i) a (b ∷ []) left (leads ∙ e) (subst (λ (text : List ℕ). IsStartOf steps text left) e s))
    (mapping_cases a b)

pub starts_written : (steps : List ℕ) (settled : List (Option Left)) (i : ℕ) (left : Left) → AreTriples steps → 3 * i + 2 < length steps
    → AreStarts steps settled → IsStartOf steps (mapping_of steps i) left → AreStarts steps (set settled i (Some left))
starts_written steps settled i left t h starts s = record {
  count = written_length settled i (Some left) ∙ starts.count;
  each = λ j other e free.
      ⊎_elim
      (λ same.
      let inside : i < length settled = let n = starts.count in omega arith in
      let here : slice_get (set settled i (Some left)) i ≡ Some (Some other) = subst (λ (k : ℕ). slice_get (set settled i (Some left)) k ≡ Some (Some other)) same e in
      let is : left ≡ other = same_Some left other (same_Some (Some left) (Some other) (sym (got_same settled i (Some left) inside) ∙ here)) in
      let key : IsFree (key_at steps i) = subst (λ (k : ℕ). IsFree (key_at steps k)) same free in
      subst (λ (k : ℕ). IsStartOf steps (key_at steps k ∷ []) other) (sym same)
      (subst (λ (l : Left). IsStartOf steps (key_at steps i ∷ []) l) is (start_of_key steps i left t h key s)))
      (λ ne. starts.each j other (sym (got_other settled i j (Some left) ne) ∙ e) free)
      (cases_eq j i);
}

-- ---- Where no more can be settled, what is open has no end

pub among_behind : (xs ys : List ℕ) (c : ℕ) → IsAmong ys c → IsAmong (xs ++ ys) c
among_behind [] ys c h = h
among_behind (x ∷ xs) ys c h = inr (among_behind xs ys c h)

pub among_front : (xs ys : List ℕ) (c : ℕ) → IsAmong xs c → IsAmong (xs ++ ys) c
among_front [] ys c h = elim h [ ]
among_front (x ∷ xs) ys c (inl e) = inl e
among_front (x ∷ xs) ys c (inr h) = inr (among_front xs ys c h)

module _ (steps : List ℕ) (settled : List (Option Left)) (t : AreTriples steps) (starts : AreStarts steps settled) (done : IsDone steps settled) where
  -- the mapping of a stuck character has one too
  stuck_further : (c : ℕ) → IsStuck steps settled c → HasStuck steps settled (step_in steps c)
  stuck_further c (inl o) =
      let i : ℕ = o.1.0 in
      let inside = got_inside settled i None o.1.2 in
      let behind = done i inside o.1.2 in
      let key : key_at steps i ≡ c = o.1.1.1 in
      let free : IsFree (key_at steps i) = subst (λ (k : ℕ). IsFree k) (sym key) o.0 in
      let step : mapping_of steps i ≡ step_in steps c = sym (key_step steps i t o.1.1.0 free) ∙ ap (step_in steps) key in
      subst (HasStuck steps settled) step behind
  stuck_further c (inr w) = (w.0, w.1, inl w.2)

  -- so its steps don't end
  never_left : (text list : List ℕ) → Leaves (step_in steps) text list → HasStuck steps settled text → ⊥
  never_left text list nothing w = w.1
  never_left text list (unmapped c cs xs e h) (d, inl same, stuck) =
      let further = stuck_further d stuck in
      let none : step_in steps d ≡ [] = ap (step_in steps) (sym same) ∙ e in
      (subst (HasStuck steps settled) none further).1
  never_left text list (unmapped c cs xs e h) (d, inr later, stuck) = never_left cs xs h (d, later, stuck)
  never_left text list (mapped c x ds cs xs e h) (d, inl same, stuck) =
      let further = stuck_further d stuck in
      let is : step_in steps d ≡ x ∷ ds = ap (step_in steps) (sym same) ∙ e in
      let w = subst (HasStuck steps settled) is further in
      never_left ((x ∷ ds) ++ cs) xs h (w.0, among_front (x ∷ ds) cs w.0 w.1, w.2)
  never_left text list (mapped c x ds cs xs e h) (d, inr later, stuck) =
      never_left ((x ∷ ds) ++ cs) xs h (d, among_behind (x ∷ ds) cs d later, stuck)

  pub stuck_endless : (c : ℕ) → IsStuck steps settled c → (list : List ℕ) → Leaves (step_in steps) (c ∷ []) list → ⊥
  stuck_endless c stuck list left = never_left (c ∷ []) list left (c, inl refl, stuck)

  pub open_endless : (i : ℕ) → slice_get settled i ≡ Some None → 3 * i + 2 < length steps → IsFree (key_at steps i) → (list : List ℕ)
      → Leaves (step_in steps) (key_at steps i ∷ []) list → ⊥
  open_endless i e h free list left = never_left (key_at steps i ∷ []) list left (key_at steps i, inl refl, inl (free, (i, (h, refl), e)))

-- ---- Steps of the code

pub mapping_double : (a b x y : ℕ) → x ≡ a → y ≡ b → y ≢ 0x110000 → mapping a b ≡ x ∷ y ∷ []
mapping_double a b x y e f ne =
    cond-false (b == 0x110000) (a ∷ []) (a ∷ b ∷ []) (ne_eqb b 0x110000 (λ same. ne (f ∙ same))) ∙ ap (λ (n : ℕ). n ∷ b ∷ []) (sym e) ∙ ap (λ (n : ℕ). x ∷ n ∷ []) (sym f)

pub got_at : {X : Type 0} (xs : List X) (i : ℕ) (x : X) → i < length xs → x ≡ get_or xs i x → slice_get xs i ≡ Some x
got_at [] i x h e = absurd (omega arith)
got_at (y ∷ xs) zero x h e = ap (λ (z : _). Some z) (sym e)
got_at (y ∷ xs) (suc i) x h e = got_at xs i x (omega arith) e

not_some : (o : Option Left) → is_some o ≡ false → o ≡ None
not_some None e = refl
not_some (Some left) e = absurd (false≢true (sym e))

pub open_at : (xs : List (Option Left)) (i : ℕ) (x : Option Left) (b : Bool) → i < length xs → x ≡ get_or xs i x → b ≡ is_some x → b ≡ false → slice_get xs i ≡ Some None
open_at xs i x b h e is false_is = got_at xs i x h e ∙ ap (λ (o : Option Left). Some o) (not_some x (sym is ∙ false_is))

-- one more triple is looked at: it was settled, and fewer are open
pub record HasProgress (steps : List ℕ) (initial settled : List (Option Left)) (more : Bool) (index : ℕ) : Type 0 where
  pub starts : AreStarts steps settled
  pub most : open_count settled ≤ open_count initial
  pub progress : more ≡ true → open_count settled < open_count initial
  pub done : more ≡ false → (i : ℕ) → i < index → slice_get settled i ≡ Some None → HasStuck steps settled (mapping_of steps i)

pub progress_made : (steps : List ℕ) (initial old new : List (Option Left)) (more after : Bool) (index : ℕ) → HasProgress steps initial old more index
    → AreStarts steps new → open_count new < open_count old → after ≡ true → HasProgress steps initial new after (index + 1)
progress_made steps initial old new more after index p starts fewer is =
    let most = p.most in
    record {
      starts = starts;
      most = omega arith;
      progress = λ happened. omega arith;
      done = λ none. let off : true ≡ false = sym is ∙ none in absurd cc;
    }

-- or it stays as it was, and can't be settled now
pub progress_none : (steps : List ℕ) (initial old new : List (Option Left)) (more after : Bool) (index : ℕ) → HasProgress steps initial old more index
    → AreStarts steps new → new ≡ old → (slice_get new index ≡ Some None → HasStuck steps new (mapping_of steps index)) → after ≡ more
    → HasProgress steps initial new after (index + 1)
progress_none steps initial old new more after index p starts same stuck is =
    record {
      starts = starts;
      most = subst (λ (xs : List (Option Left)). open_count xs ≤ open_count initial) (sym same) p.most;
      progress = λ happened. subst (λ (xs : List (Option Left)). open_count xs < open_count initial) (sym same) (p.progress (sym is ∙ happened));
      done = λ none i h e. ⊎_elim
          (λ before. subst (λ (xs : List (Option Left)). HasStuck steps xs (mapping_of steps i)) (sym same)
          (p.done (sym is ∙ none) i before (subst (λ (xs : List (Option Left)). slice_get xs i ≡ Some None) same e)))
          (λ here.
          let at : i ≡ index = omega arith in
          subst (λ (k : ℕ). HasStuck steps new (mapping_of steps k)) (sym at) (stuck (subst (λ (k : ℕ). slice_get new k ≡ Some None) at e)))
          (cases_lt i index);
    }

-- triples of which none is settled
pub record AreOpen (settled : List (Option Left)) (count : ℕ) : Type 0 where
  pub length : length settled ≡ count
  pub none : (i : ℕ) (left : Left) → slice_get settled i ≡ Some (Some left) → ⊥

pub open_pushed : (settled : List (Option Left)) (i : ℕ) (left : Left) → ((j : ℕ) (l : Left) → slice_get settled j ≡ Some (Some l) → ⊥)
    → slice_get (settled ++ None ∷ []) i ≡ Some (Some left) → ⊥
open_pushed [] zero left h e = none-some left (same_Some None (Some left) e)
open_pushed [] (suc i) left h e = none-some (Some left) e
open_pushed (x ∷ xs) zero left h e = h 0 left e
open_pushed (x ∷ xs) (suc i) left h e = open_pushed xs i left (λ j l f. h (suc j) l f) e

pushed_length : (settled : List (Option Left)) → length (settled ++ None ∷ []) ≡ suc (length settled)
pushed_length [] = refl
pushed_length (x ∷ xs) = ap suc (pushed_length xs)

pub one_more_open : (settled new : List (Option Left)) (count : ℕ) → AreOpen settled count → new ≡ settled ++ None ∷ [] → AreOpen new (count + 1)
one_more_open settled new count o is = record {
  length = let n = pushed_length settled in let m = o.length in let e = ap (λ (xs : List (Option Left)). length xs) is in omega (arith, n, m, e);
  none = λ i left e. open_pushed settled i left o.none (subst (λ (xs : List (Option Left)). slice_get xs i ≡ Some (Some left)) is e);
}

pub open_starts : (steps : List ℕ) (settled : List (Option Left)) (count : ℕ) → AreOpen settled count → count ≡ length steps / 3 → AreStarts steps settled
open_starts steps settled count o e = record { count = o.length ∙ e; each = λ i left is free. absurd (o.none i left is) }

-- a vector's items after a write through its slice
pub vector_written : {X : Type 0} (n : ℕ) (new old : List X) → length new ≡ length old → n ≡ length old → take n (new ++ drop (length new) old) ≡ new
vector_written n new old e f =
    let g : n ≡ length new = omega arith in
    rw (g) (take-append_seam new (drop (length new) old))

-- what an element that was read by reference tells
pub open_read : (xs : List (Option Left)) (i : ℕ) (x : Option Left) → i < length xs → false ≡ is_some (get_or xs i x) → slice_get xs i ≡ Some None
open_read [] i x h e = absurd (omega arith)
open_read (y ∷ xs) zero x h e = ap (λ (o : Option Left). Some o) (not_some y (sym e))
open_read (y ∷ xs) (suc i) x h e = open_read xs i x (omega arith) e

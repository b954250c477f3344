-- readers opened one after another
use Rattle.std.proofs.Common.{◌≡◌, ℕ, ◌+◌, ◌<◌, Option, Some, List, [], ◌∷◌, ◌++◌, ⊎_elim, get_or, length, sym, ap, ◌∙◌, subst, arith}
use Rattle.std.proofs.Math.Seq.{get_or-append_seam}
use Rattle.std.proofs.lemmas.Bool.{cases_eq}
use Rattle.std.proofs.lemmas.List.{get_or-map, get_or_append_left, length-map}
use Rattle.collate_merge.specs.Lines.{lines_in}
use Rattle.collate_merge.specs.Merges.{HaveLeft, IsTrueOf, Merge, parts_of}
use Rattle.collate_merge.specs.Sources.{AreLeft, HasLeft, IsOfReading}
use Rattle.collate_merge.specs.declared.errors.MergeError.{MergeError}
use Rattle.collate_merge.specs.declared.errors.MergeError.TheVariants.{Memory, Read, TooManyLines, Unordered, Write}
use Rattle.collate_merge.specs.declared.sources.Source.{Source}

-- the first so many readers are open: of each all lines are left
abbrev pub AreOpened : {R : Type 0} → (R → Option (List ℕ)) → Merge → List (List ℕ) → ℕ → List (Source R) → Type 0
AreOpened {R} remaining m files n sources = (k : ℕ) (d : Source R) → k < n
    → HasLeft remaining m (length (lines_in m.separator (get_or files k []))) (lines_in m.separator (get_or files k [])) (get_or sources k d)

module _ {R : Type 0} (remaining : R → Option (List ℕ)) (readers : List R) (files : List (List ℕ)) (known : HaveLeft remaining readers files) where
  pub as_many : length readers ≡ length files
  as_many = sym (length-map readers remaining) ∙ ap length known ∙ length-map files (λ (file : List ℕ). Some file)

  -- what a reader has left
  pub known_at : (k : ℕ) (reader : R) → k < length readers → reader ≡ get_or readers k reader → remaining reader ≡ Some (get_or files k [])
  known_at k reader within is =
      ap remaining is
      ∙ sym (get_or-map remaining readers k reader (Some []) within)
      ∙ ap (λ (os : List (Option (List ℕ))). get_or os k (Some [])) known
      ∙ get_or-map (λ (file : List ℕ). Some file) files k [] (Some []) (omega (arith, as_many))

  -- a fault of opening the reader of an index
  pub reading_true : (m : Merge) (index : ℕ) → index < length readers → (fault : MergeError) → IsOfReading index fault → IsTrueOf m files fault
  reading_true m index within (Read reader error) h = omega (arith, h, as_many)
  reading_true m index within (Unordered reader line) h = absurd h
  reading_true m index within (Write error) h = absurd h
  reading_true m index within Memory h = tt
  reading_true m index within TooManyLines h = tt

module _ {R : Type 0} (remaining : R → Option (List ℕ)) (m : Merge) (files : List (List ℕ)) where
  pub opened_none : (sources : List (Source R)) → AreOpened remaining m files 0 sources
  opened_none sources k d h = absurd (omega arith)

  -- one reader more
  pub opened_more : (n : ℕ) (sources : List (Source R)) (s : Source R) → length sources ≡ n → AreOpened remaining m files n sources
      → HasLeft remaining m (length (lines_in m.separator (get_or files n []))) (lines_in m.separator (get_or files n [])) s
      → AreOpened remaining m files (n + 1) (sources ++ s ∷ [])
  opened_more n sources s long opened left k d l =
      ⊎_elim
      (λ (same : k ≡ n).
      let here : get_or (sources ++ s ∷ []) k d ≡ s = ap (λ (i : ℕ). get_or (sources ++ s ∷ []) i d) (same ∙ sym long) ∙ get_or-append_seam sources s [] d in
      subst (HasLeft remaining m (length (lines_in m.separator (get_or files k []))) (lines_in m.separator (get_or files k []))) (sym here)
      (subst (λ (i : ℕ). HasLeft remaining m (length (lines_in m.separator (get_or files i []))) (lines_in m.separator (get_or files i [])) s) (sym same) left))
      (λ other.
      let low : k < n = omega arith in
      subst (HasLeft remaining m (length (lines_in m.separator (get_or files k []))) (lines_in m.separator (get_or files k [])))
      (sym (get_or_append_left sources (s ∷ []) d k (omega (arith, low, long)))) (opened k d low))
      (cases_eq k n)

  -- all of them
  pub opened_all : (sources : List (Source R)) → length sources ≡ length files → AreOpened remaining m files (length files) sources → AreLeft remaining m files (parts_of m files) sources
  opened_all sources long opened = record {
    long = long;
    each = λ k d l.
        subst (λ (left : List (List ℕ)). HasLeft remaining m (length (lines_in m.separator (get_or files k []))) left (get_or sources k d))
        (sym (get_or-map (lines_in m.separator) files k [] [] l)) (opened k d l);
  }

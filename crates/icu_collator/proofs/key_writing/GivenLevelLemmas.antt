-- Levels of what the elements of a list give, written one element after another.
use Rattle.std.proofs.Common.{◌≡◌, ℕ, zero, suc, ◌<◌, ◌≤◌, ◌+◌, Bool, true, false, Option, Some, None, List, [], ◌∷◌, ◌++◌, filter_map, length, drop, get_or, refl, sym, ◌∙◌, ap, append_assoc, arith}
use Rattle.std.specs.List.{cons_option, list_all}
use Rattle.std.proofs.lemmas.Bool.{cond_both}
use Rattle.std.proofs.lemmas.List.{append-nil, drop_all}
use Rattle.std.specs.Prelude.{◌==◌, cond, option_map}
use Rattle.icu_collator_core.specs.Collation.{Collation}
use Rattle.icu_collator.specs.KeyBytes.{RunCode, behind_run, codes_from, primary_code, primary_run, run_bytes}
use Rattle.icu_collator.specs.KeyCodes.{AddsGiven, AddsPrimary, IsRun}
use Rattle.icu_collator.specs.LevelLists.{counted_by, counted_list}
use Rattle.icu_collator.specs.Levels.{own_primary_at, primary_at}
use Rattle.icu_collator.specs.Shifted.{Counted, whole, variable}
use Rattle.icu_collator.proofs.keys.CommonAloneLemmas.{and_true}
use Rattle.icu_collator.proofs.lists.BackwardLemmas.{left_from}

-- an element that gives no primary, and one that gives one
pub adds_no_primary :
    (starts_run : ℕ → Bool) (given run : Option ℕ) (bytes : List ℕ) → IsRun starts_run run → given ≡ None → AddsPrimary starts_run given run bytes run bytes
adds_no_primary starts_run given run bytes is none =
    record { level = λ ps. ap (λ g. bytes ++ codes_from primary_code (primary_run starts_run) run (cons_option g ps)) (sym none); goes_on = is }

pub adds_primary :
    (starts_run : ℕ → Bool) (given : Option ℕ) (p : ℕ) (run now : Option ℕ) (before after : List ℕ) → given ≡ Some p → after ≡ before ++ primary_code run p
    → now ≡ primary_run starts_run run p → IsRun starts_run now → AddsPrimary starts_run given run before now after
unfolding codes_from
adds_primary starts_run given p run now before after some written is next =
    record {
      level = λ ps.
          ap (λ l. l ++ codes_from primary_code (primary_run starts_run) now ps) written
          ∙ append_assoc before (primary_code run p) (codes_from primary_code (primary_run starts_run) now ps)
          ∙ ap (λ r. before ++ (primary_code run p ++ codes_from primary_code (primary_run starts_run) r ps)) is
          ∙ ap (λ g. before ++ codes_from primary_code (primary_run starts_run) run (cons_option g ps)) (sym some);
      goes_on = next;
    }

-- what an element gives to the level is its primary, reordered
pub own_reordered : (collation : Collation) (e : Counted) → option_map collation.reordered (own_primary_at e) ≡ primary_at collation e
own_reordered collation (whole e) = cond_both (e.primary == 0) None (Some e.primary)
    (λ (o : Option ℕ). option_map collation.reordered o ≡ cond (e.primary == 0) None (Some (collation.reordered e.primary)))
    (λ none. rw none refl) (λ some. rw some refl)
own_reordered collation (variable p) = refl

-- what passes for all elements passes for one
at_index : (p : Counted → Bool) (end : ℕ) (xs : List ℕ) (i d : ℕ) → i < length xs → list_all p (counted_list end xs) ≡ true → p (counted_by end (get_or xs i d)) ≡ true
at_index p end [] i d inside all = absurd (omega (arith, inside))
at_index p end (x ∷ xs) zero d inside all = (and_true (p (counted_by end x)) (list_all p (counted_list end xs)) all).0
at_index p end (x ∷ xs) (suc i) d inside all =
    at_index p end xs i d (omega (arith, inside)) (and_true (p (counted_by end x)) (list_all p (counted_list end xs)) all).1

pub passes_at : (p : Counted → Bool) (end : ℕ) (xs : List ℕ) (i x : ℕ) → i < length xs → x ≡ get_or xs i x → list_all p (counted_list end xs) ≡ true
    → p (counted_by end x) ≡ true
passes_at p end xs i x inside is all = ap (λ y. p (counted_by end y)) is ∙ at_index p end xs i x inside all

module _ (at : Counted → Option ℕ) (end : ℕ) (xs : List ℕ) where
  -- what is left gives, from an index on
  abbrev left_at : ℕ → List ℕ
  left_at i = filter_map at (counted_list end (drop i xs))

  left_more : (i x : ℕ) (given : Option ℕ) → i < length xs → x ≡ get_or xs i x → given ≡ at (counted_by end x) → left_at i ≡ cons_option given (left_at (i + 1))
  left_more i x given inside is gives = ap (filter_map at) (left_from end xs i x inside is) ∙ ap (λ g. cons_option g (left_at (i + 1))) (sym gives)

  -- a level with runs, with one more element, and with none left
  pub runs_go_on :
      (code : RunCode ℕ) (i x pending now : ℕ) (given : Option ℕ) (total before after : List ℕ) → i < length xs → x ≡ get_or xs i x → given ≡ at (counted_by end x)
      → before ++ behind_run code pending (left_at i) ≡ total → AddsGiven code given pending before now after
      → after ++ behind_run code now (left_at (i + 1)) ≡ total
  runs_go_on code i x pending now given total before after inside is gives so_far adds =
      adds.level (left_at (i + 1)) ∙ sym (ap (λ l. before ++ behind_run code pending l) (left_more i x given inside is gives)) ∙ so_far

  pub runs_end :
      (code : RunCode ℕ) (i pending : ℕ) (total before after : List ℕ) → length xs ≤ i → before ++ behind_run code pending (left_at i) ≡ total
      → after ≡ before ++ run_bytes code false pending → after ≡ total
  unfolding behind_run
  runs_end code i pending total before after past so_far run =
      run ∙ sym (ap (λ l. before ++ behind_run code pending (filter_map at (counted_list end l))) (drop_all i xs past)) ∙ so_far

  -- the primary level, with one more element, and with none left
  pub primaries_go_on :
      (starts_run : ℕ → Bool) (i x : ℕ) (run now given : Option ℕ) (total before after : List ℕ) → i < length xs → x ≡ get_or xs i x → given ≡ at (counted_by end x)
      → before ++ codes_from primary_code (primary_run starts_run) run (left_at i) ≡ total → AddsPrimary starts_run given run before now after
      → after ++ codes_from primary_code (primary_run starts_run) now (left_at (i + 1)) ≡ total
  primaries_go_on starts_run i x run now given total before after inside is gives so_far adds =
      adds.level (left_at (i + 1))
      ∙ sym (ap (λ l. before ++ codes_from primary_code (primary_run starts_run) run l) (left_more i x given inside is gives)) ∙ so_far

  pub primaries_end :
      (starts_run : ℕ → Bool) (i : ℕ) (run : Option ℕ) (total before : List ℕ) → length xs ≤ i
      → before ++ codes_from primary_code (primary_run starts_run) run (left_at i) ≡ total → before ≡ total
  unfolding codes_from
  primaries_end starts_run i run total before past so_far =
      sym (append-nil before)
      ∙ sym (ap (λ l. before ++ codes_from primary_code (primary_run starts_run) run (filter_map at (counted_list end l))) (drop_all i xs past)) ∙ so_far

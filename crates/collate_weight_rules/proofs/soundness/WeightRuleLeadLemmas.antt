-- What lines tell of leads: more lines tell of more compressible leads, and of the same lead of numbers or of none so far.
use Rattle.std.proofs.Common.{◌≡◌, ◌⊎◌, inl, inr, ⊎_elim, ℕ, Bool, true, ◌==◌, ◌||◌, List, [], ◌++◌, Option, Some, None, refl, sym, ap, ◌∙◌, unwrap_or}
use Rattle.std.specs.Option.{is_some, option_or}
use Rattle.std.specs.List.{list_any}
use Rattle.std.proofs.lemmas.Bool.{cases_Bool, cond-false, cond-true, false≢true, or_cases, or_left, or_right}
use Rattle.icu_collator_core.specs.Weights.{Weights}
use Rattle.collate_lines.specs.Record.{Record}
use Rattle.collate_rules.specs.GivenWeights.{leads_to, numeric_to}
use Rattle.collate_rules.specs.Meaning.{compress_in, first_found, is_compressible_in, numeric_in, set_to}
use Rattle.collate_rules.proofs.lookups.RuleLookupLemmas.{first_found-append}

-- what is said of some leads is said of more
pub record TellFewer (leads more : Weights) : Type 0 where
  pub compressible : (lead : ℕ) → leads.is_compressible lead ≡ true → more.is_compressible lead ≡ true
  pub numeric : (leads.numeric_lead ≡ more.numeric_lead) ⊎ (leads.numeric_lead ≡ 0)

-- what is found in some lines is found first in more
found_in_more : {A B : Type 0} (found : A → Option B) (xs ys : List A) (y : B) → first_found found xs ≡ Some y
    → first_found found (xs ++ ys) ≡ Some y
found_in_more found xs ys y h = first_found-append found xs ys ∙ ap (λ o. option_or o (first_found found ys)) h

-- a lead that some lines make compressible is so by more
compressible_by_more : (xs ys : List Record) (lead : ℕ) → is_compressible_in xs lead ≡ true → is_compressible_in (xs ++ ys) lead ≡ true
compressible_by_more xs ys lead h =
    ⊎_elim (λ fe. or_left (lead == 0xfe) _ fe)
    (λ listed. or_right (lead == 0xfe) _ (at (first_found compress_in xs) refl listed))
    (or_cases (lead == 0xfe) (list_any (λ other. other == lead) (set_to compress_in [] xs)) h)
  where
    at : (o : Option (List ℕ)) → first_found compress_in xs ≡ o → list_any (λ other. other == lead) (unwrap_or o []) ≡ true
        → list_any (λ other. other == lead) (set_to compress_in [] (xs ++ ys)) ≡ true
    at None e listed = absurd (false≢true listed)
    at (Some leads) e listed =
        ap (λ o. list_any (λ other. other == lead) (unwrap_or o [])) (found_in_more compress_in xs ys leads e) ∙ listed

some_in_more : (xs ys : List Record) → is_some (first_found numeric_in xs) ≡ true → is_some (first_found numeric_in (xs ++ ys)) ≡ true
some_in_more xs ys h = at (first_found numeric_in xs) refl h
  where
    at : (o : Option ℕ) → first_found numeric_in xs ≡ o → is_some o ≡ true → is_some (first_found numeric_in (xs ++ ys)) ≡ true
    at None e some = absurd (false≢true some)
    at (Some lead) e some = ap is_some (found_in_more numeric_in xs ys lead e)

numeric_by_more : (file xs ys : List Record) → (numeric_to file xs ≡ numeric_to file (xs ++ ys)) ⊎ (numeric_to file xs ≡ 0)
numeric_by_more file xs ys =
    ⊎_elim
    (λ told.
    inl (cond-true (said xs) lead 0 told
    ∙ sym (cond-true (said (xs ++ ys)) lead 0
    (⊎_elim (λ e. or_left (lead == 0x10) _ e) (λ s. or_right (lead == 0x10) _ (some_in_more xs ys s))
    (or_cases (lead == 0x10) (is_some (first_found numeric_in xs)) told)))))
    (λ untold. inr (cond-false (said xs) lead 0 untold))
    (cases_Bool (said xs))
  where
    lead : ℕ
    lead = set_to numeric_in 0x10 file

    said : List Record → Bool
    said lines = (lead == 0x10) || is_some (first_found numeric_in lines)

pub more_leads : (file xs ys : List Record) → TellFewer (leads_to file xs) (leads_to file (xs ++ ys))
more_leads file xs ys = record { compressible = compressible_by_more xs ys; numeric = numeric_by_more file xs ys }

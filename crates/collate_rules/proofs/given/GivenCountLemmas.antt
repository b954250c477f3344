-- What the grammar gives of settings: groups are four.
use Rattle.std.proofs.Common.{◌≡◌, ℕ, Bool, ◌==◌, List, [], ◌∷◌, length, Option, Some, None, refl, ◌∙◌, arith}
use Rattle.std.specs.Prelude.{if◌then◌else◌, option_and_then, codes}
use Rattle.std.proofs.lemmas.Bool.{eqb-true}
use Rattle.icu_collator_types.specs.declared.options.AlternateHandling.TheVariants.{NonIgnorable, Shifted}
use Rattle.icu_collator_types.specs.declared.options.CollationCaseFirst.TheVariants.{False as NoCaseFirst, Lower, Upper}
use Rattle.icu_collator_types.specs.declared.options.MaxVariable.TheVariants.{Space, Punctuation, Symbol, Currency}
use Rattle.collate_lines.specs.Record.{setting, Setting, alternate, backward, case_first, max_variable, dot_above, numeric, groups, compress, reorder}
use Rattle.collate_lines.specs.Grammar.{four_groups, hex_of, listed, one_lead, setting_by, some_lead_pairs, some_listed, switch, word_among}
use Rattle.collate_rules.specs.LineCounts.{KeepsCounts}
use Rattle.collate_rules.proofs.given.GivesLemmas.{Gives, gives_none, gives_some, gives_either, gives_bound}

-- what is listed is as many as the fields
listed_length : {A : Type 0} (form : List ℕ → Option A) (fields : List (List ℕ)) → Gives (λ xs. length xs ≡ length fields) (listed form fields)
listed_length form [] = gives_some (λ xs. length xs ≡ 0) [] refl
listed_length form (field ∷ fields) =
    gives_bound (λ xs. length xs ≡ length (field ∷ fields)) (form field) _ (λ x is.
    gives_bound (λ xs. length xs ≡ length (field ∷ fields)) (listed form fields) _ (λ xs are.
    gives_some (λ xs. length xs ≡ length (field ∷ fields)) (x ∷ xs) (let same = listed_length form fields xs are in omega (arith, same))))

four : (fields : List (List ℕ)) → Gives (λ ends. length ends ≡ 4) (four_groups fields)
four fields =
    gives_either (λ ends. length ends ≡ 4) (length fields == 4) (listed (hex_of 4) fields) None
    (λ h ends are. listed_length (hex_of 4) fields ends are ∙ eqb-true (length fields) 4 h)
    (gives_none (λ ends. length ends ≡ 4))

abbrev Counted : Setting → Type 0
Counted s = KeepsCounts (setting s)

-- a setting of another kind
other : {A : Type 0} (given : Option A) (f : A → Setting) → ((a : A) → Counted (f a)) → Gives Counted (option_and_then (λ a. Some (f a)) given)
other given f h = gives_bound Counted given (λ a. Some (f a)) (λ a is. gives_some Counted (f a) (h a))

setting_of : (b : Bool) (x y : Option Setting) → Gives Counted x → Gives Counted y → Gives Counted (if b then x else y)
setting_of b x y h k = gives_either Counted b x y (λ _. h) k

pub setting_counted : (name : List ℕ) (values : List (List ℕ)) → Gives Counted (setting_by name values)
setting_counted name values =
    setting_of _ _ _ (other (word_among ((codes "nonignorable", NonIgnorable) ∷ (codes "shifted", Shifted) ∷ []) values) alternate (λ a. tt))
    (setting_of _ _ _ (other (switch values) backward (λ a. tt))
    (setting_of _ _ _ (other (word_among ((codes "off", NoCaseFirst) ∷ (codes "lower", Lower) ∷ (codes "upper", Upper) ∷ []) values) case_first (λ a. tt))
    (setting_of _ _ _ (other (word_among ((codes "space", Space) ∷ (codes "punctuation", Punctuation) ∷ (codes "symbol", Symbol) ∷ (codes "currency", Currency) ∷ []) values) max_variable (λ a. tt))
    (setting_of _ _ _ (other (switch values) dot_above (λ a. tt))
    (setting_of _ _ _ (other (one_lead values) numeric (λ a. tt))
    (setting_of _ _ _ (gives_bound Counted (four_groups values) _ (λ ends are. gives_some Counted (groups ends) (four values ends are)))
    (setting_of _ _ _ (other (some_listed (hex_of 2) values) compress (λ a. tt))
    (setting_of _ _ _ (other (some_lead_pairs values) reorder (λ a. tt)) (gives_none Counted)))))))))

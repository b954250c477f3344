-- A reloaded index is one built anew, its names added in their order of arrival.
use Rattle.std.proofs.Common.{◌≡◌, ℕ, ◌+◌, List, [], ◌∷◌, ◌++◌, length, get_or, refl, sym, ap, ◌∙◌, append-nil, append_assoc, length-append, arith}
use Rattle.std.specs.List.{Contains}
use Rattle.std.proofs.lemmas.List.{get_or_append_left, get_or_at}
use Rattle.collate_lines.specs.Record.{Record}
use Rattle.icu_collator_types.specs.declared.options.CollatorOptions.{CollatorOptions}
use Rattle.icu_collator_types.specs.declared.options.CollatorPreferences.{CollatorPreferences}
use Rattle.collate_index.specs.Catalogue.{AreDistinct, Catalogue, asked_of, opened, reloaded, with_name, with_names}

all_arrived : (names : List (List ℕ)) (s : Catalogue) → with_names names s ≡ record s { arrivals = s.arrivals ++ names }
all_arrived [] s = ap (λ (arrivals : List (List ℕ)). record s { arrivals = arrivals }) (sym (append-nil s.arrivals))
all_arrived (name ∷ names) s =
    all_arrived names (with_name name s)
    ∙ ap (λ (arrivals : List (List ℕ)). record s { arrivals = arrivals }) (append_assoc s.arrivals (name ∷ []) names)

pub built_anew : (lines : List Record) (preferences : CollatorPreferences) (options : CollatorOptions) (s : Catalogue)
    → s.asked ≡ asked_of options preferences
    → reloaded lines s ≡ with_names s.arrivals (opened (record { limits = s.limits; lines = lines }) preferences options)
built_anew lines preferences options s asked =
    ap (λ a. record { limits = s.limits; records = lines; asked = a; arrivals = s.arrivals }) asked
    ∙ sym (all_arrived s.arrivals (opened (record { limits = s.limits; lines = lines }) preferences options))

-- of names none of which occurs twice, none was there before
pub not_before : (names front back : List (List ℕ)) (name : List ℕ) → AreDistinct names → names ≡ front ++ name ∷ back → Contains front name → ⊥
not_before names front back name distinct parted there =
    let long : length names ≡ length front + length (name ∷ back) = ap length parted ∙ length-append front (name ∷ back) in
    let early : get_or names there.0 name ≡ name =
    ap (λ (xs : List (List ℕ)). get_or xs there.0 name) parted ∙ get_or_append_left front (name ∷ back) name there.0 there.1 ∙ there.2 in
    let late : get_or names (length front) name ≡ name =
    ap (λ (xs : List (List ℕ)). get_or xs (length front) name) parted ∙ get_or_at front name back name (length front) refl in
    distinct there.0 (length front) name there.1 (omega arith) (early ∙ sym late)

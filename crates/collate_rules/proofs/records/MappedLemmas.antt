-- To how many characters lines map a character, and whether steps lead on from it.
use Rattle.std.proofs.Common.{◌≡◌, ℕ, Bool, true, false, cond, ◌==◌, ◌||◌, List, [], ◌∷◌, length, Option, Some, None, ◌<◌, ◌≤◌, ◌+◌, take, take_all, get_or, refl, sym, ap, ◌∙◌, arith}
use Rattle.std.specs.Prelude.{ltb, option_map}
use Rattle.std.specs.Option.{unwrap_or}
use Rattle.std.specs.List.{list_any}
use Rattle.std.proofs.lemmas.Bool.Decides.{nat_tests}
use Rattle.std.proofs.lemmas.List.Folds.{list_any_at, list_any_more}
use Rattle.std.proofs.lemmas.Option.{none-some}
use Rattle.icu_normalizer_core.specs.BuiltIn.{built_in_compatibility_step, built_in_step, is_built_in}
use Rattle.collate_lines.specs.Record.{Record}
use Rattle.collate_rules.specs.MappedLines.{compatibility_length, mapping_length}
use Rattle.collate_rules.specs.Meaning.{any_step, compatibility_in, compatibility_of, else_mapped, first_found, mapping_in, step_of}
use Rattle.collate_rules.specs.RecordRules.{is_to_some}

abbrev leads : List ℕ → Bool
leads ds = ltb 0 (length ds)

-- what is found first, told by lengths
found_length : (found : Record → Option (List ℕ)) (lines : List Record) → first_found (λ line. option_map length (found line)) lines ≡ option_map length (first_found found lines)
found_length found [] = refl
found_length found (s ∷ ss) =
    elim (found s) as (λ o. (elim (option_map length o) [ Some y ↦ Some y | None ↦ first_found (λ line. option_map length (found line)) ss ]) ≡ option_map length (elim o [ Some y ↦ Some y | None ↦ first_found found ss ]))
    [ Some ds ↦ refl | None ↦ found_length found ss ]

-- a list with a character
some_leads : (d : ℕ) (ds : List ℕ) → leads (d ∷ ds) ≡ true
some_leads d ds = grind (arith, nat_tests)

length_or : (o : Option (List ℕ)) → unwrap_or (option_map length o) 0 ≡ length (unwrap_or o [])
length_or (Some ds) = refl
length_or None = refl

to_some_or : (o : Option (List ℕ)) → is_to_some o ≡ leads (unwrap_or o [])
to_some_or (Some []) = refl
to_some_or (Some (d ∷ ds)) = sym (some_leads d ds)
to_some_or None = refl

-- whether a built-in character has a mapping,
pub built_in_leads : (lines : List Record) (c : ℕ) (t : Bool) → is_built_in c ≡ true → t ≡ is_to_some (built_in_step c) → t ≡ leads (step_of lines c)
built_in_leads lines c t b e =
    e ∙ to_some_or (built_in_step c)
    ∙ ap (λ (u : Bool). leads (cond u (unwrap_or (built_in_step c) []) (unwrap_or (first_found (mapping_in c) lines) []))) (sym b)

-- or another,
pub free_leads : (lines : List Record) (c : ℕ) (t : Bool) → is_built_in c ≡ false → t ≡ ltb 0 (unwrap_or (first_found (mapping_length c) lines) 0) → t ≡ leads (step_of lines c)
free_leads lines c t b e =
    e ∙ ap (λ (o : Option ℕ). ltb 0 (unwrap_or o 0)) (found_length (mapping_in c) lines)
    ∙ ap (λ (n : ℕ). ltb 0 n) (length_or (first_found (mapping_in c) lines))
    ∙ ap (λ (u : Bool). leads (cond u (unwrap_or (built_in_step c) []) (unwrap_or (first_found (mapping_in c) lines) []))) (sym b)

-- and by compatibility
pub built_in_stays : (lines : List Record) (c : ℕ) → is_built_in c ≡ true → false ≡ leads (compatibility_of lines c)
built_in_stays lines c b = ap (λ (u : Bool). leads (cond u [] (unwrap_or (first_found (compatibility_in c) lines) []))) (sym b)

pub free_leads_compatibly : (lines : List Record) (c : ℕ) (t : Bool) → is_built_in c ≡ false → t ≡ ltb 0 (unwrap_or (first_found (compatibility_length c) lines) 0) → t ≡ leads (compatibility_of lines c)
free_leads_compatibly lines c t b e =
    e ∙ ap (λ (o : Option ℕ). ltb 0 (unwrap_or o 0)) (found_length (compatibility_in c) lines)
    ∙ ap (λ (n : ℕ). ltb 0 n) (length_or (first_found (compatibility_in c) lines))
    ∙ ap (λ (u : Bool). leads (cond u [] (unwrap_or (first_found (compatibility_in c) lines) []))) (sym b)

-- by either kind
by_either : (a b : List ℕ) → leads (else_mapped a b) ≡ (leads a || leads b)
by_either [] b = refl
by_either (d ∷ ds) b = some_leads d ds ∙ ap (λ (t : Bool). t || leads b) (sym (some_leads d ds))

pub neither_built_in : (lines : List Record) (c : ℕ) → None ≡ built_in_compatibility_step c → leads (any_step lines c) ≡ (leads (step_of lines c) || leads (compatibility_of lines c))
neither_built_in lines c e =
    ap (λ (o : Option (List ℕ)). leads (unwrap_or o (else_mapped (step_of lines c) (compatibility_of lines c)))) (sym e)
    ∙ by_either (step_of lines c) (compatibility_of lines c)

two_lists : (a b : Bool) (ds : List ℕ) → cond a (Some (0x3099 ∷ [])) (cond b (Some (0x309a ∷ [])) None) ≡ Some ds → leads ds ≡ true
two_lists true b ds e = let same : 0x3099 ∷ [] ≡ ds = cc in ap leads (sym same) ∙ some_leads 0x3099 []
two_lists false true ds e = let same : 0x309a ∷ [] ≡ ds = cc in ap leads (sym same) ∙ some_leads 0x309a []
two_lists false false ds e = absurd (none-some ds e)

built_in_list : (c : ℕ) (ds : List ℕ) → built_in_compatibility_step c ≡ Some ds → leads ds ≡ true
unfolding built_in_compatibility_step
built_in_list c ds e = two_lists (c == 0xff9e) (c == 0xff9f) ds e

pub compatibly_built_in : (lines : List Record) (c : ℕ) (ds : List ℕ) → Some ds ≡ built_in_compatibility_step c → true ≡ leads (any_step lines c)
compatibly_built_in lines c ds e =
    sym (built_in_list c ds (sym e))
    ∙ ap (λ (o : Option (List ℕ)). leads (unwrap_or o (else_mapped (step_of lines c) (compatibility_of lines c)))) e

-- ---- A test of each item of a list

pub any_here : (test : ℕ → Bool) (xs : List ℕ) (i x : ℕ) → i < length xs → x ≡ get_or xs i x → test x ≡ true → true ≡ list_any test xs
any_here test xs i x lt is h = sym (list_any_at test xs i x lt (ap test (sym is) ∙ h))

pub none_further : (test : ℕ → Bool) (xs : List ℕ) (i x : ℕ) → i < length xs → x ≡ get_or xs i x → list_any test (take i xs) ≡ false → test x ≡ false → list_any test (take (i + 1) xs) ≡ false
none_further test xs i x lt is before h =
    list_any_more test xs i x lt ∙ ap (λ (b : Bool). b || test (get_or xs i x)) before ∙ ap test (sym is) ∙ h

pub none_all : (test : ℕ → Bool) (xs : List ℕ) (i : ℕ) → length xs ≤ i → list_any test (take i xs) ≡ false → false ≡ list_any test xs
none_all test xs i past none = sym none ∙ ap (list_any test) (take_all i xs past)

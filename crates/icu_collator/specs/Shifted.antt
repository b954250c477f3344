-- The elements that count under alternate shifted (UTS 10, variable weighting).
use Rattle.std.specs.Prelude.{ℕ, ◌*◌, ◌^◌, Bool, true, false, cond, ◌==◌, ◌&&◌, ltb, List, [], ◌∷◌, get_or}
use Rattle.icu_collator_types.specs.declared.elements.Element.{Element}
use Rattle.icu_collator_types.specs.declared.options.ResolvedCollatorOptions.{ResolvedCollatorOptions}
use Rattle.icu_collator_types.specs.Options.{is_shifted, group_index}
use Rattle.icu_collator_core.specs.Collation.{Collation}

-- an element that counts: whole, or a variable one, of which the primary alone counts, at the quaternary level
pub data Counted : Type 0 where
  whole : Element → Counted
  variable : ℕ → Counted

-- an element is variable if its primary lies above that of U+FFFE and below the end of the last variable group
abbrev pub is_variable : Collation → ResolvedCollatorOptions → Element → Bool
is_variable collation options e =
    is_shifted options.alternate_handling
    && ltb 0x02000000 e.primary
    && ltb e.primary (get_or collation.groups (group_index options.max_variable) 0 * 2 ^ 16)

-- The elements that count. After a variable element, those without a primary count nowhere, up to the next that has one.
unfoldable pub counted_behind : Collation → ResolvedCollatorOptions → Bool → List Element → List Counted
counted_behind collation options is_behind [] = []
counted_behind collation options is_behind (e ∷ es) =
    let shifted = variable e.primary ∷ counted_behind collation options true es
    in let ignored = counted_behind collation options true es
    in let behind = whole e ∷ counted_behind collation options false es
    in cond (is_variable collation options e) shifted (cond (is_behind && (e.primary == 0)) ignored behind)

-- the elements that count at some level
abbrev pub counted : Collation → ResolvedCollatorOptions → List Element → List Counted
counted collation options es = counted_behind collation options false es

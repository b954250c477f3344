-- Texts that lines record, each after its prefix, as they are noted to be looked up.
use Rattle.std.specs.Prelude.{◌≡◌, ℕ, Bool, ◌&&◌, List, [], ◌∷◌, Option, Some, None, bytes_eq}
use Rattle.std.specs.BTreeSet.{BTreeSet, contains}
use Rattle.std.specs.Global.{Vec}
use Rattle.std.specs.List.{list_any}
use Rattle.std.specs.Ordering.{nat_cmp}
use Rattle.collate_lines.specs.Record.{Record, Layer}
use Rattle.collate_rules.specs.declared.texts.Texts.{Texts}
use Rattle.collate_rules.specs.RecordRules.{is_given}

-- the one character of a text that has no other, and no prefix
abbrev pub lone_of : List ℕ → List ℕ → Option ℕ
lone_of [] (c ∷ []) = Some c
lone_of _ _ = None

-- prefixes, each with a text
abbrev pub Keys : Type 0
Keys = BTreeSet (Vec ℕ × Vec ℕ)

-- whether a prefix and a text are among them
abbrev pub has_key : Keys → List ℕ → List ℕ → Bool
has_key keys prefix text = list_any (λ key. bytes_eq prefix key.0.items && bytes_eq text key.1.items) keys.keys

-- whether a text after a prefix is noted
abbrev pub has_text : Texts → List ℕ → List ℕ → Bool
has_text texts [] (c ∷ []) = contains nat_cmp texts.alone c
has_text texts prefix text = has_key texts.beside prefix text

-- what lines of a layer record is noted
abbrev pub HasTexts : Layer → Texts → List Record → Type 0
HasTexts layer texts lines = (prefix text : List ℕ) → has_text texts prefix text ≡ is_given layer prefix text lines

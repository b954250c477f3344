-- What lines record of a character with others beside it, gathered one line after another.
use Rattle.std.specs.Prelude.{◌≡◌, ℕ, Bool, cond, ◌==◌, List, [], ◌∷◌, ◌++◌, Option, Some, None, bytes_eq}
use Rattle.std.specs.BTreeSet.{BTreeSet}
use Rattle.std.specs.Borrow.{Bor}
use Rattle.std.specs.List.{list_any}
use Rattle.icu_collator_types.specs.declared.elements.Element.{Element}
use Rattle.collate_lines.specs.Record.{Layer, Record, is_same_layer, root, tailoring, weights}
use Rattle.collate_words.specs.Sayings.{SaidBeside}

-- ## What is gathered: of the same characters, what was found first

-- whether something is said with these characters
abbrev pub has_beside : List SaidBeside → List ℕ → Bool
has_beside saids characters = list_any (λ other. bytes_eq other.characters characters) saids

-- a set has the texts with which something is said
abbrev pub HasTexts : BTreeSet (Bor (List ℕ)) → List SaidBeside → Type 0
HasTexts texts saids =
    (characters : List ℕ) → list_any (λ text. bytes_eq text.now characters) texts.keys ≡ has_beside saids characters

abbrev pub with_beside : List SaidBeside → SaidBeside → List SaidBeside
with_beside saids said = cond (has_beside saids said.characters) saids (saids ++ said ∷ [])

-- with what was found, if something was
abbrev pub with_found : List SaidBeside → Option SaidBeside → List SaidBeside
with_found saids None = saids
with_found saids (Some said) = with_beside saids said

-- with what is found in a list
abbrev pub gathered : {A : Type 0} → (A → Option SaidBeside) → List A → List SaidBeside → List SaidBeside
gathered found [] saids = saids
gathered found (x ∷ xs) saids = gathered found xs (with_found saids (found x))

-- ## What stands after a character, and before it

-- what a key and its elements say of a character with others after it
abbrev pub suffix_of : ℕ → List ℕ → List ℕ → List Element → Option SaidBeside
suffix_of c [] (d ∷ e ∷ ds) es = cond (c == d) (Some (record { characters = e ∷ ds; elements = es })) None
suffix_of c _ _ es = None

-- and of a character with others before it
abbrev pub prefix_of : ℕ → List ℕ → List ℕ → List Element → Option SaidBeside
prefix_of c (b ∷ bs) (d ∷ []) es = cond (c == d) (Some (record { characters = b ∷ bs; elements = es })) None
prefix_of c _ _ es = None

-- what a line of a layer says so
abbrev pub suffix_in : Layer → ℕ → Record → Option SaidBeside
suffix_in layer c (weights of_layer prefix text es) =
    cond (is_same_layer layer of_layer) (suffix_of c prefix text es) None
suffix_in layer c _ = None

abbrev pub prefix_in : Layer → ℕ → Record → Option SaidBeside
prefix_in layer c (weights of_layer prefix text es) =
    cond (is_same_layer layer of_layer) (prefix_of c prefix text es) None
prefix_in layer c _ = None

-- what all lines say so; a line of the tailoring comes first
abbrev pub suffixes_in : List Record → ℕ → List SaidBeside
suffixes_in lines c = gathered (suffix_in root c) lines (gathered (suffix_in tailoring c) lines [])

abbrev pub prefixes_in : List Record → ℕ → List SaidBeside
prefixes_in lines c = gathered (prefix_in root c) lines (gathered (prefix_in tailoring c) lines [])

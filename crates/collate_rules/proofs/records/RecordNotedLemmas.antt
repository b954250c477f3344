-- What is noted of lines says what they say.
use Rattle.std.proofs.Common.{◌≡◌, ℕ, Bool, true, false, cond, not, ◌==◌, ◌&&◌, ◌||◌, List, [], ◌∷◌, ◌++◌, Option, Some, None, refl, sym, ◌∙◌, ap}
use Rattle.std.specs.Prelude.{is_some, length, option_map}
use Rattle.std.specs.Ordering.{nat_cmp}
use Rattle.std.specs.BTreeMap.{BTreeMap, get}
use Rattle.std.specs.BTreeSet.{BTreeSet, contains}
use Rattle.std.specs.List.{list_any}
use Rattle.std.specs.Option.{option_or}
use Rattle.std.proofs.lemmas.List.Folds.{list_any-append}
use Rattle.std.proofs.Math.Bool.{or-false}
use Rattle.collate_lines.specs.Record.{Record, class, mapping, compatibility, weights, digit}
use Rattle.collate_rules.specs.Meaning.{class_in, digit_in, first_found, mapping_in}
use Rattle.collate_rules.specs.MappedLines.{HasCompatibilities, HasMappings, compatibility_length, compatibility_line, mapping_length, mapping_line}
use Rattle.collate_rules.specs.NotedLines.{HasAlone, HasClasses, HasDigits, HasFurther, HasMapped, HasOdd, class_line, digit_line, further_character, is_it, lone_character, mapped_character, odd_character, records_alone}
use Rattle.collate_rules.specs.RecordRules.{is_alone as is_alone_text, is_common_secondary, is_further, is_other_mark, is_replaced}
use Rattle.collate_rules.proofs.lookups.RuleLookupLemmas.{first_found-push, first_found-skip}

length_cond : (b : Bool) (ds : List ℕ) → option_map length (cond b (Some ds) None) ≡ cond b (Some (length ds)) None
length_cond true ds = refl
length_cond false ds = refl

-- ---- Classes and digits

-- what a character and its value say of a character
abbrev value_of : ℕ → Option (ℕ × ℕ) → Option ℕ
value_of c o = elim o [ Some p ↦ cond (c == p.0) (Some p.1) None | None ↦ None ]

-- what lines say of characters, told by the one character of which each line says it
module _ (said_in : ℕ → Record → Option ℕ) (said_by : Record → Option (ℕ × ℕ))
    (by_line : (c : ℕ) (line : Record) → said_in c line ≡ value_of c (said_by line)) where
  abbrev HasValues : BTreeMap ℕ ℕ → List Record → Type 0
  HasValues values lines = (c : ℕ) → get nat_cmp values c ≡ first_found (said_in c) lines

  value_noted : (old new : BTreeMap ℕ ℕ) (lines : List Record) (line : Record) (d k : ℕ) → Some (d, k) ≡ said_by line → HasValues old lines
      → ((c : ℕ) → get nat_cmp new c ≡ option_or (get nat_cmp old c) (cond (c == d) (Some k) None)) → HasValues new (lines ++ line ∷ [])
  value_noted old new lines line d k is has put c =
      let says : said_in c line ≡ cond (c == d) (Some k) None = by_line c line ∙ ap (value_of c) (sym is) in
      put c ∙ ap (λ (o : Option ℕ). option_or o (cond (c == d) (Some k) None)) (has c)
      ∙ ap (option_or (first_found (said_in c) lines)) (sym says) ∙ sym (first_found-push (said_in c) lines line)

  value_past : (values : BTreeMap ℕ ℕ) (lines : List Record) (line : Record) → None ≡ said_by line → HasValues values lines
      → HasValues values (lines ++ line ∷ [])
  value_past values lines line is has c =
      let none : said_in c line ≡ None = by_line c line ∙ ap (value_of c) (sym is) in
      has c ∙ sym (first_found-skip (said_in c) lines line none)

class_by_line : (c : ℕ) (line : Record) → class_in c line ≡ value_of c (class_line line)
class_by_line c (class d k) = refl
class_by_line c line = refl

pub class_noted : (old new : BTreeMap ℕ ℕ) (lines : List Record) (line : Record) (d k : ℕ) → Some (d, k) ≡ class_line line → HasClasses old lines
    → ((c : ℕ) → get nat_cmp new c ≡ option_or (get nat_cmp old c) (cond (c == d) (Some k) None)) → HasClasses new (lines ++ line ∷ [])
class_noted = value_noted class_in class_line class_by_line

pub class_past : (classes : BTreeMap ℕ ℕ) (lines : List Record) (line : Record) → None ≡ class_line line → HasClasses classes lines → HasClasses classes (lines ++ line ∷ [])
class_past = value_past class_in class_line class_by_line

digit_by_line : (c : ℕ) (line : Record) → digit_in c line ≡ value_of c (digit_line line)
digit_by_line c (digit d v) = refl
digit_by_line c line = refl

pub digit_noted : (old new : BTreeMap ℕ ℕ) (lines : List Record) (line : Record) (d k : ℕ) → Some (d, k) ≡ digit_line line → HasDigits old lines
    → ((c : ℕ) → get nat_cmp new c ≡ option_or (get nat_cmp old c) (cond (c == d) (Some k) None)) → HasDigits new (lines ++ line ∷ [])
digit_noted = value_noted digit_in digit_line digit_by_line

pub digit_past : (digits : BTreeMap ℕ ℕ) (lines : List Record) (line : Record) → None ≡ digit_line line → HasDigits digits lines → HasDigits digits (lines ++ line ∷ [])
digit_past = value_past digit_in digit_line digit_by_line

-- ---- Mappings and records

some_cond : {B : Type 0} (b : Bool) (x : B) → is_some (cond b (Some x) None) ≡ b
some_cond true x = refl
some_cond false x = refl

-- what lines say, told by the one character of which each line says it
module _ (is_said : ℕ → List Record → Bool) (said_by : Record → Option ℕ)
    (push : (c : ℕ) (lines : List Record) (line : Record) → (is_said c lines || is_it c (said_by line)) ≡ is_said c (lines ++ line ∷ [])) where
  abbrev HasSaid : BTreeSet ℕ → List Record → Type 0
  HasSaid noted lines = (c : ℕ) → contains nat_cmp noted c ≡ is_said c lines

  one_noted : (old new : BTreeSet ℕ) (lines : List Record) (line : Record) (d : ℕ) → Some d ≡ said_by line → HasSaid old lines
      → ((c : ℕ) → contains nat_cmp new c ≡ (contains nat_cmp old c || (c == d))) → HasSaid new (lines ++ line ∷ [])
  one_noted old new lines line d is has put c =
      put c ∙ ap (λ (b : Bool). b || (c == d)) (has c) ∙ ap (λ (o : Option ℕ). is_said c lines || is_it c o) is ∙ push c lines line

  none_noted : (noted : BTreeSet ℕ) (lines : List Record) (line : Record) → None ≡ said_by line → HasSaid noted lines → HasSaid noted (lines ++ line ∷ [])
  none_noted noted lines line is has c =
      has c ∙ sym (or-false (is_said c lines)) ∙ ap (λ (o : Option ℕ). is_said c lines || is_it c o) is ∙ push c lines line

mapped_by_line : (c : ℕ) (line : Record) → is_some (mapping_in c line) ≡ is_it c (mapped_character line)
mapped_by_line c (mapping d ds x) = some_cond (c == d) ds
mapped_by_line c line = refl

some_or : {B : Type 0} (o p : Option B) → is_some (option_or o p) ≡ (is_some o || is_some p)
some_or (Some y) p = refl
some_or None p = refl

abbrev is_mapped : ℕ → List Record → Bool
is_mapped c lines = is_some (first_found (mapping_in c) lines)

mapped_push : (c : ℕ) (lines : List Record) (line : Record) → (is_mapped c lines || is_it c (mapped_character line)) ≡ is_mapped c (lines ++ line ∷ [])
mapped_push c lines line =
    ap (λ (b : Bool). is_mapped c lines || b) (sym (mapped_by_line c line))
    ∙ sym (some_or (first_found (mapping_in c) lines) (mapping_in c line))
    ∙ ap (λ (p : Option (List ℕ)). is_some p) (sym (first_found-push (mapping_in c) lines line))

pub mapping_noted : (old new : BTreeSet ℕ) (lines : List Record) (line : Record) (d : ℕ) → Some d ≡ mapped_character line → HasMapped old lines
    → ((c : ℕ) → contains nat_cmp new c ≡ (contains nat_cmp old c || (c == d))) → HasMapped new (lines ++ line ∷ [])
mapping_noted = one_noted is_mapped mapped_character mapped_push

pub mapping_past : (mapped : BTreeSet ℕ) (lines : List Record) (line : Record) → None ≡ mapped_character line → HasMapped mapped lines
    → HasMapped mapped (lines ++ line ∷ [])
mapping_past = none_noted is_mapped mapped_character mapped_push

alone_by_line : (c : ℕ) (line : Record) → records_alone c line ≡ is_it c (lone_character line)
alone_by_line c (weights l [] [] es) = refl
alone_by_line c (weights l [] (d ∷ []) es) = refl
alone_by_line c (weights l [] (d ∷ e ∷ ds) es) = refl
alone_by_line c (weights l (b ∷ bs) t es) = refl
alone_by_line c line = refl

abbrev is_alone : ℕ → List Record → Bool
is_alone c lines = list_any (records_alone c) lines

alone_push : (c : ℕ) (lines : List Record) (line : Record) → (is_alone c lines || is_it c (lone_character line)) ≡ is_alone c (lines ++ line ∷ [])
alone_push c lines line =
    ap (λ (b : Bool). is_alone c lines || b) (sym (alone_by_line c line) ∙ sym (or-false (records_alone c line)))
    ∙ sym (list_any-append (records_alone c) lines (line ∷ []))

pub alone_noted : (old new : BTreeSet ℕ) (lines : List Record) (line : Record) (d : ℕ) → Some d ≡ lone_character line → HasAlone old lines
    → ((c : ℕ) → contains nat_cmp new c ≡ (contains nat_cmp old c || (c == d))) → HasAlone new (lines ++ line ∷ [])
alone_noted = one_noted is_alone lone_character alone_push

pub alone_past : (alone : BTreeSet ℕ) (lines : List Record) (line : Record) → None ≡ lone_character line → HasAlone alone lines → HasAlone alone (lines ++ line ∷ [])
alone_past = none_noted is_alone lone_character alone_push

-- ---- Characters that are recorded otherwise

not_alone : (x alone replaced : Bool) (c d : ℕ) → x ≡ (c == d) → ((x && not alone) && not replaced) ≡ is_it c (cond (alone || replaced) None (Some d))
not_alone true true replaced c d e = refl
not_alone false true replaced c d e = refl
not_alone true false true c d e = refl
not_alone false false true c d e = refl
not_alone true false false c d e = e
not_alone false false false c d e = e

further_by_line : (records : List Record) (c : ℕ) (line : Record) → is_further records c line ≡ is_it c (further_character records line)
further_by_line records c (weights layer prefix [] es) = refl
further_by_line records c (weights layer prefix (d ∷ ds) es) = not_alone (c == d) (is_alone_text prefix (d ∷ ds)) (is_replaced records layer prefix (d ∷ ds)) c d refl
further_by_line records c line = refl

odd_parts : (x alone replaced common : Bool) (c d : ℕ) → x ≡ (c == d)
    → (((x && not alone) && not replaced) || (((alone && x) && not replaced) && not common)) ≡ is_it c (cond ((alone && common) || replaced) None (Some d))
odd_parts true true true true c d e = refl
odd_parts true true true false c d e = refl
odd_parts true true false true c d e = refl
odd_parts true true false false c d e = e
odd_parts false true true true c d e = refl
odd_parts false true true false c d e = refl
odd_parts false true false true c d e = refl
odd_parts false true false false c d e = e
odd_parts true false true common c d e = refl
odd_parts false false true common c d e = refl
odd_parts true false false common c d e = e
odd_parts false false false common c d e = e

abbrev is_odd : List Record → ℕ → Record → Bool
is_odd records c line = is_further records c line || is_other_mark records c line

odd_by_line : (records : List Record) (c : ℕ) (line : Record) → is_odd records c line ≡ is_it c (odd_character records line)
odd_by_line records c (weights layer [] [] es) = refl
odd_by_line records c (weights layer (b ∷ bs) [] es) = refl
odd_by_line records c (weights layer prefix (d ∷ ds) es) =
    odd_parts (c == d) (is_alone_text prefix (d ∷ ds)) (is_replaced records layer prefix (d ∷ ds)) (is_common_secondary es) c d refl
odd_by_line records c line = refl

-- what is noted of a line, by the one character of which the line says it
module _ (is_said : ℕ → Record → Bool) (said_by : Record → Option ℕ) (by_line : (c : ℕ) (line : Record) → is_said c line ≡ is_it c (said_by line)) where
  line_noted : (old new : BTreeSet ℕ) (lines : List Record) (line : Record) (o : Option ℕ) → o ≡ said_by line
      → ((c : ℕ) → contains nat_cmp old c ≡ list_any (is_said c) lines)
      → ((c : ℕ) → contains nat_cmp new c ≡ (contains nat_cmp old c || is_it c o))
      → (c : ℕ) → contains nat_cmp new c ≡ list_any (is_said c) (lines ++ line ∷ [])
  line_noted old new lines line o is has put c =
      put c ∙ ap (λ (b : Bool). b || is_it c o) (has c) ∙ ap (λ (p : Option ℕ). list_any (is_said c) lines || is_it c p) is
      ∙ ap (λ (b : Bool). list_any (is_said c) lines || b) (sym (by_line c line) ∙ sym (or-false (is_said c line)))
      ∙ sym (list_any-append (is_said c) lines (line ∷ []))

pub further_noted : (records : List Record) (old new : BTreeSet ℕ) (lines : List Record) (line : Record) (o : Option ℕ) → o ≡ further_character records line
    → HasFurther records old lines → ((c : ℕ) → contains nat_cmp new c ≡ (contains nat_cmp old c || is_it c o)) → HasFurther records new (lines ++ line ∷ [])
further_noted records = line_noted (is_further records) (further_character records) (further_by_line records)

pub odd_noted : (records : List Record) (old new : BTreeSet ℕ) (lines : List Record) (line : Record) (o : Option ℕ) → o ≡ odd_character records line
    → HasOdd records old lines → ((c : ℕ) → contains nat_cmp new c ≡ (contains nat_cmp old c || is_it c o)) → HasOdd records new (lines ++ line ∷ [])
odd_noted records = line_noted (is_odd records) (odd_character records) (odd_by_line records)

-- ---- To how many characters lines map

mapping_length_by_line : (c : ℕ) (line : Record) → mapping_length c line ≡ value_of c (mapping_line line)
mapping_length_by_line c (mapping d ds x) = length_cond (c == d) ds
mapping_length_by_line c line = refl

pub mapping_length_noted : (old new : BTreeMap ℕ ℕ) (lines : List Record) (line : Record) (d k : ℕ) → Some (d, k) ≡ mapping_line line → HasMappings old lines
    → ((c : ℕ) → get nat_cmp new c ≡ option_or (get nat_cmp old c) (cond (c == d) (Some k) None)) → HasMappings new (lines ++ line ∷ [])
mapping_length_noted = value_noted mapping_length mapping_line mapping_length_by_line

pub mapping_length_past : (lengths : BTreeMap ℕ ℕ) (lines : List Record) (line : Record) → None ≡ mapping_line line → HasMappings lengths lines → HasMappings lengths (lines ++ line ∷ [])
mapping_length_past = value_past mapping_length mapping_line mapping_length_by_line

compatibility_length_by_line : (c : ℕ) (line : Record) → compatibility_length c line ≡ value_of c (compatibility_line line)
compatibility_length_by_line c (compatibility d ds) = length_cond (c == d) ds
compatibility_length_by_line c line = refl

pub compatibility_length_noted : (old new : BTreeMap ℕ ℕ) (lines : List Record) (line : Record) (d k : ℕ) → Some (d, k) ≡ compatibility_line line → HasCompatibilities old lines
    → ((c : ℕ) → get nat_cmp new c ≡ option_or (get nat_cmp old c) (cond (c == d) (Some k) None)) → HasCompatibilities new (lines ++ line ∷ [])
compatibility_length_noted = value_noted compatibility_length compatibility_line compatibility_length_by_line

pub compatibility_length_past : (lengths : BTreeMap ℕ ℕ) (lines : List Record) (line : Record) → None ≡ compatibility_line line → HasCompatibilities lengths lines
    → HasCompatibilities lengths (lines ++ line ∷ [])
compatibility_length_past = value_past compatibility_length compatibility_line compatibility_length_by_line

-- What the grammar gives of numbers and counts: the weights of a line's elements are of their widths, a digit is at most 9, a
-- mapping is to one character at least, and groups are four.
use Rattle.std.proofs.Common.{◌≡◌, ℕ, ◌+◌, ◌-◌, ◌*◌, ◌^◌, ◌<◌, ◌≤◌, Bool, true, ◌==◌, leb, ltb, List, [], ◌∷◌, length, Option, Some, None, refl, sym, ap, ◌∙◌, subst, arith, lit<}
use Rattle.std.specs.Prelude.{if◌then◌else◌, codes, option_and_then}
use Rattle.std.specs.List.{list_all, slice_split}
use Rattle.std.proofs.Math.Nat.{mul-le-mul_right, mul_assoc, mul_comm, pow-suc}
use Rattle.std.proofs.lemmas.Bool.{and_from, and_parts, eqb-true, leb-true, lt-ltb}
use Rattle.icu_collator_types.specs.declared.elements.Element.{Element}
use Rattle.icu_collator_core.specs.WeightRules.{has_widths}
use Rattle.collate_lines.specs.Record.{Record, nothing, class, mapping, compatibility, weights, range, digit, setting, Layer, root, tailoring}
use Rattle.collate_lines.specs.Grammar.{checked, class_by, class_number, code_point, compatibility_by, decimal_digit, digit_by, digit_to, element, element_by, ending_by, hex_digit, hex_number, hex_of, in_brackets, is_within, key_by, listed, mapping_by, number_after, parted, primary, range_by, record_by, record_of, set_by, setting_by, some_listed, step_number, weights_by}
use Rattle.collate_rules.specs.GivenWeights.{KeepsWidths}
use Rattle.collate_rules.specs.LineCounts.{KeepsCounts}
use Rattle.collate_rules.proofs.given.GivenCountLemmas.{setting_counted}
use Rattle.collate_rules.proofs.given.GivesLemmas.{Gives, gives_none, gives_some, gives_either, gives_bound, gives_checked}

-- ---- Digits and numbers

decimal_below : (b : ℕ) → Gives (λ v. v < 10) (decimal_digit b)
decimal_below b =
    gives_checked (λ v. v < 10) (is_within 48 57 b) (b - 48)
    (λ h. let most = leb-true b 57 (and_parts (leb 48 b) (leb b 57) h).1 in omega (arith, most))

hex_below : (b : ℕ) → Gives (λ v. v < 16) (hex_digit b)
hex_below b =
    gives_either (λ v. v < 16) (is_within 65 70 b) (Some (b - 55)) (decimal_digit b)
    (λ h. gives_some (λ v. v < 16) (b - 55) (let most = leb-true b 70 (and_parts (leb 65 b) (leb b 70) h).1 in omega (arith, most)))
    (λ v e. let small = decimal_below b v e in omega (arith, small))

one_digit_more : (n w : ℕ) → (16 * (n + 1)) * w ≡ (n + 1) * (w * 16)
one_digit_more n w = ap (λ m. m * w) (mul_comm 16 (n + 1)) ∙ mul_assoc (n + 1) 16 w ∙ ap (λ m. (n + 1) * m) (mul_comm 16 w)

number_below : (bs : List ℕ) (n : ℕ) → Gives (λ m. m < (n + 1) * 16 ^ length bs) (number_after 16 hex_digit n bs)
number_below [] n = gives_some (λ m. m < (n + 1) * 1) n (omega arith)
number_below (b ∷ bs) n =
    elim (hex_digit b) as
    (λ o. (hex_digit b ≡ o
    → Gives (λ m. m < (n + 1) * 16 ^ length (b ∷ bs)) (elim o [ None ↦ None | Some v ↦ number_after 16 hex_digit (16 * n + v) bs ]))) [
      | None ↦ λ is. gives_none (λ m. m < (n + 1) * 16 ^ length (b ∷ bs))
      | Some v ↦ λ is m e.
          let small = hex_below b v is in
          let below = number_below bs (16 * n + v) m e in
          let room : 16 * n + v + 1 ≤ 16 * (n + 1) = omega (arith, small) in
          let more = mul-le-mul_right (16 ^ length bs) room in
          let same = one_digit_more n (16 ^ length bs) ∙ ap (λ w. (n + 1) * w) (sym (pow-suc 16 (length bs))) in
          let far : m < (16 * (n + 1)) * 16 ^ length bs = omega (arith, below, more) in
          subst (λ k. m < k) same far
    ] refl

hex_width : (digits : ℕ) (field : List ℕ) → Gives (λ m. m < 16 ^ digits) (hex_of digits field)
hex_width digits field =
    gives_either (λ m. m < 16 ^ digits) (length field == digits) (hex_number field) None
    (λ h m e.
    let below = number_below field 0 m e in
    let same = eqb-true (length field) digits h in
    subst (λ n. m < 16 ^ n) same (omega (arith, below)))
    (gives_none (λ m. m < 16 ^ digits))

primary_width : (field : List ℕ) → Gives (λ p. p < 2 ^ 32) (primary field)
primary_width field =
    gives_either (λ p. p < 2 ^ 32) _ (Some 0) (hex_of 8 field)
    (λ _. gives_some (λ p. p < 2 ^ 32) 0 (lit< tt)) (hex_width 8 field)

digit_most : (last : ℕ) (field : List ℕ) → Gives (λ v. leb v last ≡ true) (digit_to last field)
digit_most last [] = gives_none (λ v. leb v last ≡ true)
digit_most last (b ∷ []) =
    gives_bound (λ v. leb v last ≡ true) (decimal_digit b) (λ v. checked (leb v last) v)
    (λ v is. gives_checked (λ v. leb v last ≡ true) (leb v last) v (λ h. h))
digit_most last (b ∷ c ∷ bs) = gives_none (λ v. leb v last ≡ true)

-- ---- Elements

abbrev HasWidths : Element → Type 0
HasWidths e = has_widths e ≡ true

weights_widths : (fields : List (List ℕ)) → Gives HasWidths (element_by fields)
weights_widths [] = gives_none HasWidths
weights_widths (p ∷ []) = gives_none HasWidths
weights_widths (p ∷ s ∷ []) = gives_none HasWidths
weights_widths (p ∷ s ∷ c ∷ []) = gives_none HasWidths
weights_widths (p ∷ s ∷ c ∷ t ∷ []) = gives_none HasWidths
weights_widths (p ∷ s ∷ c ∷ t ∷ q ∷ []) =
    gives_bound HasWidths (primary p) _ (λ p' is_p.
    gives_bound HasWidths (hex_of 4 s) _ (λ s' is_s.
    gives_bound HasWidths (digit_to 2 c) _ (λ c' is_c.
    gives_bound HasWidths (hex_of 4 t) _ (λ t' is_t.
    gives_bound HasWidths (digit_to 3 q) _ (λ q' is_q.
    gives_some HasWidths (record { primary = p'; secondary = s'; case = c'; tertiary = t'; quaternary = q' })
    (and_from _ (leb q' 3)
    (and_from _ (leb c' 2)
    (and_from _ (ltb t' (2 ^ 16))
    (and_from (ltb p' (2 ^ 32)) (ltb s' (2 ^ 16)) (lt-ltb p' (2 ^ 32) (primary_width p p' is_p)) (lt-ltb s' (2 ^ 16) (hex_width 4 s s' is_s)))
    (lt-ltb t' (2 ^ 16) (hex_width 4 t t' is_t)))
    (digit_most 2 c c' is_c))
    (digit_most 3 q q' is_q)))))))
weights_widths (p ∷ s ∷ c ∷ t ∷ q ∷ x ∷ xs) = gives_none HasWidths

element_widths : (field : List ℕ) → Gives HasWidths (element field)
element_widths field = gives_bound HasWidths (in_brackets field) _ (λ inside is. weights_widths (slice_split (λ b. b == 46) inside))

elements_widths : (fields : List (List ℕ)) → Gives (λ es. list_all has_widths es ≡ true) (listed element fields)
elements_widths [] = gives_some (λ es. list_all has_widths es ≡ true) [] refl
elements_widths (field ∷ fields) =
    gives_bound (λ es. list_all has_widths es ≡ true) (element field) _ (λ e is.
    gives_bound (λ es. list_all has_widths es ≡ true) (listed element fields) _ (λ es are.
    gives_some (λ es. list_all has_widths es ≡ true) (e ∷ es)
    (and_from (has_widths e) (list_all has_widths es) (element_widths field e is) (elements_widths fields es are))))

-- ---- Lines

-- what the grammar gives of a line
abbrev KeepsBoth : Record → Type 0
KeepsBoth line = KeepsWidths line × KeepsCounts line

abbrev Keeps : Option Record → Type 0
Keeps given = Gives KeepsBoth given

no_line : Keeps None
no_line = gives_none KeepsBoth

-- a line that keeps both
keeping : (line : Record) → KeepsWidths line → KeepsCounts line → Keeps (Some line)
keeping line widths counts = gives_some KeepsBoth line (widths, counts)

bound : {A : Type 0} (given : Option A) (f : A → Option Record) → ((a : A) → given ≡ Some a → Keeps (f a)) → Keeps (option_and_then f given)
bound given f h = gives_bound KeepsBoth given f h

class_keeps : (fields : List (List ℕ)) → Keeps (class_by fields)
class_keeps [] = no_line
class_keeps (c ∷ []) = no_line
class_keeps (c ∷ n ∷ []) = bound (code_point c) _ (λ d is. bound (class_number n) _ (λ k are. keeping (class d k) tt tt))
class_keeps (c ∷ n ∷ x ∷ xs) = no_line

mapping_keeps : (fields : List (List ℕ)) → Keeps (mapping_by fields)
mapping_keeps [] = no_line
mapping_keeps (c ∷ []) = no_line
mapping_keeps (c ∷ d ∷ fields) =
    bound (code_point c) _ (λ a is.
    bound (code_point d) _ (λ b also.
    bound (ending_by fields) _ (λ ending ends. keeping (mapping a (b ∷ ending.0) ending.1) tt (omega arith))))

compatibility_keeps : (fields : List (List ℕ)) → Keeps (compatibility_by fields)
compatibility_keeps [] = no_line
compatibility_keeps (c ∷ fields) =
    bound (code_point c) _ (λ a is. bound (some_listed code_point fields) _ (λ ds are. keeping (compatibility a ds) tt tt))

weights_keep : (layer : Layer) (fields : List (List ℕ)) → Keeps (weights_by layer fields)
weights_keep layer fields =
    bound (parted (codes ";") fields) _ (λ parts are.
    bound (key_by parts.0) _ (λ key is.
    bound (listed element parts.1) _ (λ es read. keeping (weights layer key.0 key.1 es) (elements_widths parts.1 es read) tt)))

range_keeps : (fields : List (List ℕ)) → Keeps (range_by fields)
range_keeps [] = no_line
range_keeps (c ∷ []) = no_line
range_keeps (c ∷ d ∷ []) = no_line
range_keeps (c ∷ d ∷ p ∷ []) = no_line
range_keeps (c ∷ d ∷ p ∷ n ∷ []) =
    bound (code_point c) _ (λ a is.
    bound (code_point d) _ (λ b also.
    bound (hex_of 8 p) _ (λ q has.
    bound (step_number n) _ (λ m steps. keeping (range (record { first = a; last = b; primary = q; step = m })) tt tt))))
range_keeps (c ∷ d ∷ p ∷ n ∷ x ∷ xs) = no_line

digit_keeps : (fields : List (List ℕ)) → Keeps (digit_by fields)
digit_keeps [] = no_line
digit_keeps (c ∷ []) = no_line
digit_keeps (c ∷ n ∷ []) =
    bound (code_point c) _ (λ a is. bound (digit_to 9 n) _ (λ v has. keeping (digit a v) (digit_most 9 n v has) tt))
digit_keeps (c ∷ n ∷ x ∷ xs) = no_line

set_keeps : (fields : List (List ℕ)) → Keeps (set_by fields)
set_keeps [] = no_line
set_keeps (name ∷ values) =
    bound (setting_by name values) _ (λ s is. keeping (setting s) tt (setting_counted name values s is))

-- one of two forms, by a word
one_of : (b : Bool) (x y : Option Record) → Keeps x → Keeps y → Keeps (if b then x else y)
one_of b x y h k = gives_either KeepsBoth b x y (λ _. h) k

fields_keep : (fields : List (List ℕ)) → Keeps (record_by fields)
fields_keep [] = no_line
fields_keep (word ∷ fields) =
    one_of _ _ _ (class_keeps fields)
    (one_of _ _ _ (mapping_keeps fields)
    (one_of _ _ _ (compatibility_keeps fields)
    (one_of _ _ _ (weights_keep root fields)
    (one_of _ _ _ (weights_keep tailoring fields)
    (one_of _ _ _ (range_keeps fields)
    (one_of _ _ _ (digit_keeps fields)
    (one_of _ _ _ (set_keeps fields) no_line)))))))

line_keeps : (line : List ℕ) → Keeps (record_of line)
line_keeps line = one_of _ _ _ no_line (one_of _ _ _ (keeping nothing tt tt) (fields_keep (slice_split (λ b. b == 32) line)))

-- a line in the grammar has elements of their widths, and digits up to 9
pub line_keeps_widths : (line : List ℕ) (given : Record) → record_of line ≡ Some given → KeepsWidths given
line_keeps_widths line given is = (line_keeps line given is).0

-- a line in the grammar maps to one character at least, and sets four groups
pub line_keeps_counts : (line : List ℕ) (given : Record) → record_of line ≡ Some given → KeepsCounts given
line_keeps_counts line given is = (line_keeps line given is).1

-- one line more for an output: written, or equal to the last
use Rattle.std.proofs.Common.{◌≡◌, ℕ, Bool, true, false, ◌&&◌, cond, Option, Some, None, List, [], ◌∷◌, ◌++◌, refl, sym, ap, ◌∙◌, subst, true≢false}
use Rattle.std.specs.declared.cmp.Ordering.{Ordering}
use Rattle.std.proofs.lemmas.List.{append-nil}
use Rattle.collate_keyed_lines.specs.KeyedLines.{turned}
use Rattle.collate_lists.specs.Names.{is_equal}
use Rattle.collate_rules.specs.Accepted.{AreAccepted}
use Rattle.collate_merge.specs.KeyOrder.{byte_order}
use Rattle.collate_merge.specs.Merges.{Merge, order_in, text_of}
use Rattle.collate_merge.specs.Sources.{IsOutput, KeepsKey, KeepsLast, key_in}
use Rattle.collate_merge.specs.Written.{last_behind, written_of}
use Rattle.collate_merge.specs.declared.output.Output.{Output}
use Rattle.collate_merge.proofs.KeyLemmas.{keys_tell}

-- whether a line is equal to the last
abbrev pub is_repeated : {A : Type 0} → (A → A → Ordering) → Option A → A → Bool
is_repeated R None x = false
is_repeated R (Some kept) x = is_equal (R x kept)

module _ {A : Type 0} (R : A → A → Ordering) where
  pub written_plain : (unique : Bool) (last : Option A) (x : A) → unique ≡ false → (written_of unique R last x ≡ x ∷ []) × (last_behind unique R last x ≡ last)
  written_plain false last x is = (refl, refl)
  written_plain true last x is = absurd (true≢false is)

  pub written_again : (unique : Bool) (last : Option A) (x : A) → unique ≡ true → is_repeated R last x ≡ true → (written_of unique R last x ≡ []) × (last_behind unique R last x ≡ last)
  written_again false last x is again = absurd (true≢false (sym is))
  written_again true None x is again = absurd (true≢false (sym again))
  written_again true (Some kept) x is again = (ap (λ (b : Bool). cond b [] (x ∷ [])) again, ap (λ (b : Bool). cond b (Some kept) (Some x)) again)

  pub written_first : (unique : Bool) (last : Option A) (x : A) → unique ≡ true → is_repeated R last x ≡ false → (written_of unique R last x ≡ x ∷ []) × (last_behind unique R last x ≡ Some x)
  written_first false last x is fresh = absurd (true≢false (sym is))
  written_first true None x is fresh = (refl, refl)
  written_first true (Some kept) x is fresh = (ap (λ (b : Bool). cond b [] (x ∷ [])) fresh, ap (λ (b : Bool). cond b (Some kept) (Some x)) fresh)

one_text : (separator : ℕ) (line : List ℕ) → text_of separator (line ∷ []) ≡ line ++ separator ∷ []
one_text separator line = append-nil (line ++ separator ∷ [])

module _ (m : Merge) (accepted : AreAccepted m.rule.records.lines) (last : Option (List ℕ)) (output : Output) (kept : IsOutput m last output) (line key : List ℕ) (key_is : key ≡ key_in m line) where
  repeated_if : (o : Option (List ℕ)) → KeepsLast m o output → (output.has_last && is_equal (turned output.direction byte_order key output.last.items)) ≡ is_repeated (order_in m) o line
  repeated_if None h = ap (λ (b : Bool). b && is_equal (turned output.direction byte_order key output.last.items)) h
  repeated_if (Some before) h =
      ap (λ (b : Bool). b && is_equal (turned output.direction byte_order key output.last.items)) h.0
      ∙ ap is_equal (keys_tell m accepted output.direction line before key output.last.items kept.direction key_is h.1)

  pub repeated_is : (answer : Bool) → answer ≡ (output.has_last && is_equal (turned output.direction byte_order key output.last.items)) → answer ≡ is_repeated (order_in m) last line
  repeated_is answer told = told ∙ repeated_if last kept.kept

  abbrev text : List ℕ
  text = text_of m.separator (written_of m.unique (order_in m) last line)

  module _ (answer : Bool) (told : answer ≡ (output.has_last && is_equal (turned output.direction byte_order key output.last.items))) (unique : output.unique ≡ true) where
    pub again_text : answer ≡ true → text_of m.separator (written_of m.unique (order_in m) last line) ≡ []
    again_text is_so = ap (text_of m.separator) (written_again (order_in m) m.unique last line (sym kept.unique ∙ unique) (sym (repeated_is answer told) ∙ is_so)).0

    pub again_last : answer ≡ true → IsOutput m (last_behind m.unique (order_in m) last line) output
    again_last is_so = subst (λ (o : Option (List ℕ)). IsOutput m o output) (sym (written_again (order_in m) m.unique last line (sym kept.unique ∙ unique) (sym (repeated_is answer told) ∙ is_so)).1) kept

    pub first_text : answer ≡ false → line ++ output.separator ∷ [] ≡ text_of m.separator (written_of m.unique (order_in m) last line)
    first_text is_new =
        ap (λ (n : ℕ). line ++ n ∷ []) kept.separator
        ∙ sym (ap (text_of m.separator) (written_first (order_in m) m.unique last line (sym kept.unique ∙ unique) (sym (repeated_is answer told) ∙ is_new)).0 ∙ one_text m.separator line)

    pub first_last : answer ≡ false → (after : Output) → KeepsKey key output after → IsOutput m (last_behind m.unique (order_in m) last line) after
    first_last is_new after h =
        subst (λ (o : Option (List ℕ)). IsOutput m o after)
        (sym (written_first (order_in m) m.unique last line (sym kept.unique ∙ unique) (sym (repeated_is answer told) ∙ is_new)).1)
        (record {
          direction = h.direction ∙ kept.direction;
          unique = h.unique ∙ kept.unique;
          separator = h.separator ∙ kept.separator;
          kept = (h.has_last, h.last ∙ key_is);
        })

  module _ (plain : output.unique ≡ false) where
    pub plain_text : line ++ output.separator ∷ [] ≡ text_of m.separator (written_of m.unique (order_in m) last line)
    plain_text =
        ap (λ (n : ℕ). line ++ n ∷ []) kept.separator
        ∙ sym (ap (text_of m.separator) (written_plain (order_in m) m.unique last line (sym kept.unique ∙ plain)).0 ∙ one_text m.separator line)

    pub plain_last : IsOutput m (last_behind m.unique (order_in m) last line) output
    plain_last = subst (λ (o : Option (List ℕ)). IsOutput m o output) (sym (written_plain (order_in m) m.unique last line (sym kept.unique ∙ plain)).1) kept

-- a source that reads its next line, and goes on to it
use Rattle.std.proofs.Common.{◌≡◌, ℕ, suc, ◌+◌, Bool, true, false, Option, Some, List, [], ◌∷◌, length, refl, sym, ap, ◌∙◌, subst, arith}
use Rattle.std.specs.Prelude.{IfSome, MatchBool}
use Rattle.collate_merge.specs.LineParts.{part_of}
use Rattle.collate_merge.specs.declared.part.LinePart.{LinePart}
use Rattle.collate_keyed_lines.specs.KeyedLines.{turned}
use Rattle.collate_keyed_lines.specs.declared.direction.Direction.{Direction}
use Rattle.collate_lists.specs.Names.{is_greater}
use Rattle.collate_rules.specs.Accepted.{AreAccepted}
use Rattle.collate_sort.specs.Keys.{key_by_rule}
use Rattle.collate_sort.specs.Orders.{LineRule}
use Rattle.collate_merge.specs.KeyOrder.{byte_order}
use Rattle.collate_merge.specs.Lines.{ReadsLine, lines_in, reader_inside, separator_of}
use Rattle.collate_merge.specs.Merged.{StartsUpto}
use Rattle.collate_merge.specs.Merges.{Merge, order_in}
use Rattle.collate_merge.specs.Sources.{HasLeft, HasLine, IsBehind, IsFaultAt}
use Rattle.collate_merge.specs.declared.errors.MergeError.TheVariants.{Unordered}
use Rattle.collate_merge.specs.declared.sources.Source.{Source}
use Rattle.collate_merge.proofs.KeyLemmas.{keys_tell}

pub some_at : (known : Option (List ℕ)) (bytes : List ℕ) (P : List ℕ → Type 0) → known ≡ Some bytes → IfSome known P → P bytes
some_at known bytes P is h = subst (λ (o : Option (List ℕ)). IfSome o P) is h

module _ {R : Type 0} (remaining : R → Option (List ℕ)) (m : Merge) (all : ℕ) where
  -- what reading did to a source after which these bytes were left
  pub line_read : (rest : List ℕ) (s : Source R) → IsBehind remaining m all rest s → (more : Bool) (line : List ℕ) (left : Option (List ℕ))
      → IfSome (remaining (reader_inside s.lines)) (λ bytes. ReadsLine (separator_of s.lines) bytes more line left) → ReadsLine m.separator rest more line left
  line_read rest s behind more line left told =
      subst (λ (n : ℕ). ReadsLine n rest more line left) behind.separator
      (some_at (remaining (reader_inside s.lines)) rest (λ bytes. ReadsLine (separator_of s.lines) bytes more line left) behind.known told)

  left_line : (left : List (List ℕ)) (t : Source R) → t.is_done ≡ false → (more : List (List ℕ)) × (left ≡ t.line.items ∷ more) × HasLine remaining m all more t → HasLeft remaining m all left t
  left_line left t here h = subst (λ (b : Bool). MatchBool b (left ≡ []) ((more : List (List ℕ)) × (left ≡ t.line.items ∷ more) × HasLine remaining m all more t)) (sym here) h

  pub left_none : (left : List (List ℕ)) (t : Source R) → t.is_done ≡ true → left ≡ [] → HasLeft remaining m all left t
  left_none left t done h = subst (λ (b : Bool). MatchBool b (left ≡ []) ((more : List (List ℕ)) × (left ≡ t.line.items ∷ more) × HasLine remaining m all more t)) (sym done) h

  -- a line was read, and its key made
  pub read_more : (rest : List ℕ) (s t : Source R) (more : Bool) (rule : LineRule) (part : LinePart) → IsBehind remaining m all rest s → m.rule ≡ rule → m.part ≡ part
      → t.is_done ≡ false → more ≡ true → separator_of t.lines ≡ separator_of s.lines → t.count ≡ s.count + 1 → t.key.items ≡ key_by_rule rule (part_of part t.line.items)
      → IfSome (remaining (reader_inside s.lines)) (λ bytes. ReadsLine (separator_of s.lines) bytes more t.line.items (remaining (reader_inside t.lines)))
      → HasLeft remaining m all (lines_in m.separator rest) t
  read_more rest s t more rule part behind by_rule by_part here there separator count key told =
      let read : ReadsLine m.separator rest true t.line.items (remaining (reader_inside t.lines)) =
      subst (λ (b : Bool). ReadsLine m.separator rest b t.line.items (remaining (reader_inside t.lines))) there
      (line_read rest s behind more t.line.items (remaining (reader_inside t.lines)) told) in
      let long : length (lines_in m.separator rest) ≡ suc (length (lines_in m.separator read.0)) = ap length read.2 in
      left_line (lines_in m.separator rest) t here (
        lines_in m.separator read.0,
        read.2,
        record {
          rest = read.0;
          behind = record { known = read.1; separator = separator ∙ behind.separator; counted = omega (arith, count, behind.counted, long) };
          more_is = refl;
          key_is =
              key ∙ sym (ap (λ (r : LineRule). key_by_rule r (part_of m.part t.line.items)) by_rule ∙ ap (λ (c : LinePart). key_by_rule rule (part_of c t.line.items)) by_part);
        },
      )

  -- there was none
  pub read_none : (rest : List ℕ) (s t : Source R) (more : Bool) (line : List ℕ) → IsBehind remaining m all rest s → t.is_done ≡ true → more ≡ false
      → IfSome (remaining (reader_inside s.lines)) (λ bytes. ReadsLine (separator_of s.lines) bytes more line (remaining (reader_inside t.lines)))
      → HasLeft remaining m all (lines_in m.separator rest) t
  read_none rest s t more line behind done none told =
      left_none (lines_in m.separator rest) t done
      (subst (λ (b : Bool). ReadsLine m.separator rest b line (remaining (reader_inside t.lines))) none (line_read rest s behind more line (remaining (reader_inside t.lines)) told))

  -- ---- going on

  module _ (s t : Source R) (more : List (List ℕ)) (h : HasLine remaining m all more s) (left : HasLeft remaining m all (lines_in m.separator h.rest) t) where
    pub left_behind : HasLeft remaining m all more t
    left_behind = subst (λ (ls : List (List ℕ)). HasLeft remaining m all ls t) (sym h.more_is) left

    pub follows_none : t.is_done ≡ true → StartsUpto (order_in m) s.line.items more
    follows_none done =
        let none : more ≡ [] = subst (λ (b : Bool). MatchBool b (more ≡ []) ((later : List (List ℕ)) × (more ≡ t.line.items ∷ later) × HasLine remaining m all later t)) done left_behind in
        subst (StartsUpto (order_in m) s.line.items) (sym none) tt

    next_line : t.is_done ≡ false → (later : List (List ℕ)) × (more ≡ t.line.items ∷ later) × HasLine remaining m all later t
    next_line here = subst (λ (b : Bool). MatchBool b (more ≡ []) ((later : List (List ℕ)) × (more ≡ t.line.items ∷ later) × HasLine remaining m all later t)) here left_behind

    module _ (accepted : AreAccepted m.rule.records.lines) (direction : Direction) (same : direction ≡ m.rule.direction) (previous key : List ℕ)
        (previous_is : previous ≡ s.key.items) (key_is : key ≡ t.key.items) (here : t.is_done ≡ false) where
      told : (b : Bool) → b ≡ is_greater (turned direction byte_order previous key) → b ≡ is_greater (order_in m s.line.items t.line.items)
      told b is = is ∙ ap is_greater (keys_tell m accepted direction s.line.items t.line.items previous key same (previous_is ∙ h.key_is) (key_is ∙ (next_line here).2.key_is))

      pub follows_line : (b : Bool) → b ≡ is_greater (turned direction byte_order previous key) → b ≡ false → StartsUpto (order_in m) s.line.items more
      follows_line b is none = subst (StartsUpto (order_in m) s.line.items) (sym (next_line here).1) (sym (told b is) ∙ none)

      pub below_line : (index : ℕ) (b : Bool) → b ≡ is_greater (turned direction byte_order previous key) → b ≡ true → IsFaultAt m all s.line.items more index (Unordered index t.count)
      below_line index b is some =
          let next = next_line here in
          let long : length more ≡ suc (length next.0) = ap length next.1 in
          let counted : t.count + length next.0 ≡ all = ap (λ (ls : List (List ℕ)). t.count + length ls) next.2.more_is ∙ next.2.behind.counted in
          (refl, t.line.items, next.0, next.1, sym (told b is) ∙ some, omega (arith, long, counted))

-- What a line of a records file says, as plain numbers and lists.
use Rattle.std.specs.Prelude.{ℕ, Bool, true, false, List, [], ◌∷◌}
use Rattle.std.specs.Option.{option_to_list}
use Rattle.icu_collator_types.specs.declared.elements.Element.{Element}
use Rattle.icu_collator_types.specs.declared.options.AlternateHandling.{AlternateHandling}
use Rattle.icu_collator_types.specs.declared.options.CollationCaseFirst.{CollationCaseFirst}
use Rattle.icu_collator_types.specs.declared.options.MaxVariable.{MaxVariable}
use Rattle.collate_lines.specs.declared.record.Range.{Range}
use Rattle.collate_lines.specs.declared.record.Layer.{Layer as LineLayer}
use Rattle.collate_lines.specs.declared.record.Layer.TheVariants.{Root, Tailoring}
use Rattle.collate_lines.specs.declared.record.Setting.{Setting as LineSetting}
use Rattle.collate_lines.specs.declared.record.Setting.TheVariants.{Alternate, Backward, CaseFirst, MaxVariable as MaxVariableTo, DotAbove, Numeric, Groups, Compress, Reorder}
use Rattle.collate_lines.specs.declared.record.Record.{Record as Line}
use Rattle.collate_lines.specs.declared.record.Record.TheVariants.{Nothing, Class, Map, Kmap, Weights, Range as RangeOf, Digit, Set}

-- the two layers of weights: those of w lines, and those of t lines, which replace them
pub data Layer : Type 0 where
  root : Layer
  tailoring : Layer

-- what a set line sets
pub data Setting : Type 0 where
  alternate : AlternateHandling → Setting
  backward : Bool → Setting
  case_first : CollationCaseFirst → Setting
  max_variable : MaxVariable → Setting
  dot_above : Bool → Setting
  -- the lead byte of numbers
  numeric : ℕ → Setting
  -- the upper halves of the first primaries after spaces, punctuation, symbols and currency signs
  groups : List ℕ → Setting
  -- compressible leads
  compress : List ℕ → Setting
  -- leads, each with the one that takes its place
  reorder : List (ℕ × ℕ) → Setting

-- what a line says
pub data Record : Type 0 where
  -- an empty line, or a comment
  nothing : Record
  -- a character's canonical combining class
  class : ℕ → ℕ → Record
  -- a character's canonical mapping, and whether an x keeps it out of the composed pairs
  mapping : ℕ → List ℕ → Bool → Record
  -- a character's compatibility mapping
  compatibility : ℕ → List ℕ → Record
  -- the elements of a text after a prefix: layer, prefix, text, elements
  weights : Layer → List ℕ → List ℕ → List Element → Record
  -- characters whose primaries follow each other
  range : Range → Record
  -- a digit and its value
  digit : ℕ → ℕ → Record
  setting : Setting → Record

-- whether two layers are the same
abbrev pub is_same_layer : Layer → Layer → Bool
is_same_layer root root = true
is_same_layer tailoring tailoring = true
is_same_layer _ _ = false

-- the elements of a character by itself, as a w line gives them
abbrev pub lone_weights : ℕ → List Element → Record
lone_weights c es = weights root [] (c ∷ []) es

-- the layer of a line that was read
abbrev pub layer_of : LineLayer → Layer
layer_of Root = root
layer_of Tailoring = tailoring

-- what a set line that was read sets
abbrev pub set_by_line : LineSetting → Setting
set_by_line (Alternate a) = alternate a
set_by_line (Backward b) = backward b
set_by_line (CaseFirst c) = case_first c
set_by_line (MaxVariableTo m) = max_variable m
set_by_line (DotAbove b) = dot_above b
set_by_line (Numeric lead) = numeric lead
set_by_line (Groups ends) = groups ends
set_by_line (Compress leads) = compress leads.items
set_by_line (Reorder pairs) = reorder pairs.items

-- what a line that was read says
abbrev pub said : Line → Record
said Nothing = nothing
said (Class c k) = class c k
said (Map c first second is_excluded) = mapping c (first ∷ option_to_list second) is_excluded
said (Kmap c mapped) = compatibility c mapped.items
said (Weights layer prefix text elements) = weights (layer_of layer) prefix.items text.items elements.items
said (RangeOf r) = range r
said (Digit c value) = digit c value
said (Set s) = setting (set_by_line s)

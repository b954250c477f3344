-- The things that lines were for: a class, a mapping of one kind, a digit, the weights of a key in its layer, a setting.
use Rattle.std.specs.Prelude.{Bool, false, ◌&&◌, bytes_eq}
use Rattle.std.specs.Ordering.{nat_cmp}
use Rattle.std.specs.BTreeSet.{contains}
use Rattle.std.specs.List.{list_any}
use Rattle.collate_lines.specs.declared.seen.Seen.{Seen}
use Rattle.collate_lines.specs.Record.{Record, class, mapping, compatibility, weights, digit, setting, root, tailoring}
use Rattle.collate_lines.specs.Repeats.{setting_name}

-- an earlier line was for what this one is for
abbrev pub is_seen : Seen → Record → Bool
is_seen seen (class c k) = contains nat_cmp seen.classes c
is_seen seen (mapping c ds is_excluded) = contains nat_cmp seen.mappings c
is_seen seen (compatibility c ds) = contains nat_cmp seen.compatibilities c
is_seen seen (weights root prefix text es) =
    list_any (λ key. bytes_eq prefix key.0.items && bytes_eq text key.1.items) seen.root.keys
is_seen seen (weights tailoring prefix text es) =
    list_any (λ key. bytes_eq prefix key.0.items && bytes_eq text key.1.items) seen.tailoring.keys
is_seen seen (digit c value) = contains nat_cmp seen.digits c
is_seen seen (setting s) = list_any (λ name. bytes_eq (setting_name s) name.now) seen.settings.keys
is_seen seen _ = false

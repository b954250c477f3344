-- a line read as a command
use Rattle.std.proofs.Common.{◌≡◌, ℕ, true, false, List, length, take, drop, Some, None, codes, bytes_eq, refl}
use Rattle.collate_run.specs.Replies.{add, remove, find, between_command, key, list, unknown, rest_after, record_count, reload_of, command_of}

pub rest_after-some : (word line name : List ℕ) → bytes_eq (take (length word) line) word ≡ true → name ≡ drop (length word) line → rest_after word line ≡ Some name
rest_after-some word line name starts is = rw (starts, is) refl

pub rest_after-none : (word line : List ℕ) → bytes_eq (take (length word) line) word ≡ false → rest_after word line ≡ None
rest_after-none word line starts = rw starts refl

module _ (line rest : List ℕ) where
  pub command-add : rest_after (codes "add ") line ≡ Some rest → add rest ≡ command_of line
  unfolding command_of
  command-add a = rw a refl

  module _ (a : rest_after (codes "add ") line ≡ None) where
    pub command-remove : rest_after (codes "remove ") line ≡ Some rest → remove rest ≡ command_of line
    unfolding command_of
    command-remove b = rw (a, b) refl

    module _ (b : rest_after (codes "remove ") line ≡ None) where
      pub command-find : rest_after (codes "find ") line ≡ Some rest → find rest ≡ command_of line
      unfolding command_of
      command-find c = rw (a, b, c) refl

      module _ (c : rest_after (codes "find ") line ≡ None) where
        pub command-between : rest_after (codes "between ") line ≡ Some rest → between_command rest ≡ command_of line
        unfolding command_of
        command-between d = rw (a, b, c, d) refl

        module _ (d : rest_after (codes "between ") line ≡ None) where
          pub command-key : rest_after (codes "key ") line ≡ Some rest → key rest ≡ command_of line
          unfolding command_of
          command-key e = rw (a, b, c, d, e) refl

          module _ (e : rest_after (codes "key ") line ≡ None) where
            pub command-reload : rest_after (codes "reload ") line ≡ Some rest → reload_of (record_count rest) ≡ command_of line
            unfolding command_of
            command-reload f = rw (a, b, c, d, e, f) refl

            module _ (f : rest_after (codes "reload ") line ≡ None) where
              pub command-list : bytes_eq line (codes "list") ≡ true → list ≡ command_of line
              unfolding command_of
              command-list g = rw (a, b, c, d, e, f, g) refl

              pub command-unknown : bytes_eq line (codes "list") ≡ false → unknown ≡ command_of line
              unfolding command_of
              command-unknown g = rw (a, b, c, d, e, f, g) refl

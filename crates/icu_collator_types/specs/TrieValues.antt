-- What the words of canonical tables say of a character's class. The two uppermost bits of a word say nothing here.
use Rattle.std.specs.Prelude.{ℕ, ◌%◌, ◌^◌, Bool, cond, ◌&&◌, leb}

-- the decomposition of the word's character begins with a mark
abbrev pub has_ccc : ℕ → Bool
has_ccc word = leb 0xd800 (word % 2 ^ 30) && leb (word % 2 ^ 30) 0xd9ff

-- the word is that of a character whose decomposition is built in and begins with a mark
abbrev pub is_special_decomposition : ℕ → Bool
is_special_decomposition word = leb 0xd900 (word % 2 ^ 30) && leb (word % 2 ^ 30) 0xd9ff

-- the class that the word says
abbrev pub ccc_from_trie_value : ℕ → ℕ
ccc_from_trie_value word = cond (has_ccc word) (word % 2 ^ 8) 0

-- What is put into the book.
use Rattle.std.specs.Prelude.{ℕ, List, codes, [], ◌∷◌}
use Rattle.sqlite.specs.declared.types.Value.{Value}
use Rattle.sqlite.specs.declared.types.Value.TheVariants.{Blob, Text}
use Rattle.examples_address_book.specs.declared.keys.Keys.{Keys}

-- the statement that puts a name with its keys into the book
abbrev pub insertion : List ℕ
insertion = codes "INSERT INTO person (name, sort_key, letters) VALUES (?1, ?2, ?3)"

-- the columns of a name: itself, its key by all levels, and its key by its letters alone
abbrev pub columns_of : List ℕ → Keys → List Value
columns_of name keys = Text name ∷ Blob keys.sort_key.items ∷ Blob keys.letters.items ∷ []

-- what an error of `add` prints
use Rattle.std.specs.Prelude.{ℕ, List, codes}
use Rattle.collate_name_list.specs.declared.errors.AddError.{AddError}
use Rattle.collate_name_list.specs.declared.errors.AddError.TheVariants.{Duplicate, Memory}

abbrev pub add_error_text : AddError → List ℕ
add_error_text Duplicate = codes "the name is already in the index"
add_error_text Memory = codes "out of memory"

-- A file of eight letters and three accents, and the files with more lines that orders and keys share.
use Rattle.std.specs.Prelude.{[], ◌∷◌, ◌++◌, codes}
use Rattle.examples_uses.specs.Files.{Lines}

-- the letters a, b, c, e, h, l, o and t, with an acute, a circumflex and a dot below
abbrev pub letters : Lines
letters =
    codes "class 0302 230" ∷ codes "class 0323 220" ∷ codes "map 00E1 0061 0301" ∷ codes "map 1EA1 0061 0323"
    ∷ codes "w 0061 ; [2A100000.0500.0.0500.0]" ∷ codes "w 0062 ; [2A200000.0500.0.0500.0]"
    ∷ codes "w 0063 ; [2A300000.0500.0.0500.0]" ∷ codes "w 0065 ; [2A500000.0500.0.0500.0]"
    ∷ codes "w 0068 ; [2A800000.0500.0.0500.0]" ∷ codes "w 006C ; [2AC00000.0500.0.0500.0]"
    ∷ codes "w 006F ; [2AF00000.0500.0.0500.0]" ∷ codes "w 0074 ; [2B400000.0500.0.0500.0]"
    ∷ codes "w 0301 ; [0.8800.0.0500.0]" ∷ codes "w 0302 ; [0.8A00.0.0500.0]" ∷ codes "w 0323 ; [0.8C00.0.0500.0]" ∷ []

-- "A" as an "a" in upper case
abbrev pub with_upper_a : Lines
with_upper_a = letters ++ codes "w 0041 ; [2A100000.0500.2.0900.0]" ∷ []

-- a space and a full stop, each the last of a variable group
abbrev pub with_stops : Lines
with_stops =
    letters ++ codes "w 0020 ; [03040000.0500.0.0500.0]" ∷ codes "w 002E ; [03080000.0500.0.0500.0]"
    ∷ codes "set groups 0306 030A 030A 030A" ∷ []

-- a space and a full stop, which the file's last variable group holds
abbrev pub with_punctuation : Lines
with_punctuation = with_stops ++ codes "set maxvariable punctuation" ∷ []

-- the ten digits, which by themselves are letters at 1110 to 1119
abbrev pub with_digits : Lines
with_digits =
    letters ++ codes "digit 0030 0" ∷ codes "digit 0031 1" ∷ codes "digit 0032 2" ∷ codes "digit 0033 3" ∷ codes "digit 0034 4"
    ∷ codes "digit 0035 5" ∷ codes "digit 0036 6" ∷ codes "digit 0037 7" ∷ codes "digit 0038 8" ∷ codes "digit 0039 9"
    ∷ codes "w 0030 ; [11100000.0500.0.0500.0]" ∷ codes "w 0031 ; [11110000.0500.0.0500.0]"
    ∷ codes "w 0032 ; [11120000.0500.0.0500.0]" ∷ codes "w 0033 ; [11130000.0500.0.0500.0]"
    ∷ codes "w 0034 ; [11140000.0500.0.0500.0]" ∷ codes "w 0035 ; [11150000.0500.0.0500.0]"
    ∷ codes "w 0036 ; [11160000.0500.0.0500.0]" ∷ codes "w 0037 ; [11170000.0500.0.0500.0]"
    ∷ codes "w 0038 ; [11180000.0500.0.0500.0]" ∷ codes "w 0039 ; [11190000.0500.0.0500.0]" ∷ []

-- a range of ideographs
abbrev pub with_ideographs : Lines
with_ideographs = letters ++ codes "range 4E00 9FFF E0020200 1" ∷ []

-- "c" after "ab" as a letter between "e" and "h"
abbrev pub with_c_behind_ab : Lines
with_c_behind_ab = letters ++ codes "w 0061 0062 | 0063 ; [2A600000.0500.0.0500.0]" ∷ []

-- "e" after "abc" as a letter between "h" and "l"
abbrev pub with_e_behind_abc : Lines
with_e_behind_abc = letters ++ codes "w 0061 0062 0063 | 0065 ; [2AA00000.0500.0.0500.0]" ∷ []

-- besides, "e" after "c" alone as a letter between "e" and "h"
abbrev pub with_two_prefixes : Lines
with_two_prefixes = with_e_behind_abc ++ codes "w 0063 | 0065 ; [2A700000.0500.0.0500.0]" ∷ []

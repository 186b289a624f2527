-- The sample of the command `--sample`.
use Rattle.std.specs.Prelude.{ℕ, zero, suc, ◌%◌, ◌==◌, if◌then◌else◌, List, [], ◌++◌, codes, decimal}

-- the pieces by the remainder of their number, with the number's digits in them
abbrev pub piece_with : ℕ → List ℕ → List ℕ
piece_with remainder digits =
    if remainder == 0 then codes "<p>Item " ++ (digits ++ codes " &copy;\n")
    else if remainder == 1 then codes "<ul>a<li><b>" ++ (digits ++ codes "<i>b</b>c</i></ul>\n")
    else if remainder == 2 then codes "<table><tr><td>" ++ (digits ++ (codes "<td>x<caption>" ++ (digits ++ codes "</table>\n")))
    else if remainder == 3 then codes "<a href=\"HTTP://Example.COM/" ++ (digits ++ (codes "?q=a b\">" ++ (digits ++ codes "</a>\n")))
    else codes "<blockquote><font color=red>" ++ (digits ++ codes "</font><br></blockquote>\n")

-- the piece of a number
abbrev pub piece_of : ℕ → List ℕ
piece_of number = piece_with (number % 5) (decimal number)

-- so many pieces in a row, from the number 0 on
unfoldable pub sample_of : ℕ → List ℕ
sample_of zero = []
sample_of (suc pieces) = sample_of pieces ++ piece_of pieces

-- The kinds of lines by their numbers: each by its place in the order in which they stand.
use Rattle.std.specs.Prelude.{ℕ}
use Rattle.panel_forms.specs.declared.LineKind.{LineKind}
use Rattle.panel_forms.specs.declared.LineKind.TheVariants as Kind

abbrev pub kind_number : LineKind → ℕ
kind_number Kind.Product = 0
kind_number Kind.Version = 1
kind_number Kind.Input = 2
kind_number Kind.Size = 3
kind_number Kind.Gamma = 4
kind_number Kind.Features = 5
kind_number Kind.Chroma = 6
kind_number Kind.White = 7
kind_number Kind.Established = 8
kind_number Kind.Standard = 9
kind_number Kind.Detailed = 10
kind_number Kind.Descriptor = 11
kind_number Kind.Extensions = 12

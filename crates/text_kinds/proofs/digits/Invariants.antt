-- `text_kinds::digits` meets its contract. The invariant: what is left stands for the number, behind the digits read. Assumes nothing.
use Rattle.std.specs.Prelude.{◌≤◌, ◌≡◌, drop}
use Rattle.text_kinds.specs.Kinds.{all_digits, value}
use Rattle.text_kinds.proofs.digits.Given as goal

abbrev pub invariant-loop-b : goal.invariant-loop-b
invariant-loop-b l = record {
  all : all_digits l.w ≡ all_digits (drop l.b-index l.w);
  is : value 0 l.w ≡ value l.value (drop l.b-index l.w);
  fits : l.value ≤ 4294967295;
}

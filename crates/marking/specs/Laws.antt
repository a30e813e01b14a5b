-- Nothing to believe: the marks of a block as the code gathers them, slot by slot.
use Rattle.std.specs.Prelude.{ℕ, false, ◌&&◌, ◌||◌, List, ◌≡◌, refl, ltb, leb}
use Rattle.bits.specs.Bytes.{◌!◌}
use Rattle.marking.specs.declared.Marks.{Marks}
use Rattle.marking.specs.Marks.{slot_in, active_low_zero, tag10, index_zero, gamma_ff, codes_zero, pairs_zero, marks_in}

abbrev pub no_marks : Marks
no_marks = record { active = false; dummy = false; index = false; gamma = false; ratio = false; revision = false }

-- the marks m and those of a slot t; its ratio whatever the revision is
unfoldable pub with_slot : Marks → List ℕ → Marks
with_slot m t = record {
  active = m.active || active_low_zero t;
  dummy = m.dummy || tag10 t;
  index = m.index || index_zero t;
  gamma = m.gamma || gamma_ff t;
  ratio = m.ratio || pairs_zero t;
  revision = m.revision;
}

-- the marks m of the four slots, with the revision and the eight pairs
unfoldable pub in_block : List ℕ → Marks → Marks
in_block s m = record {
  active = m.active;
  dummy = m.dummy;
  index = m.index;
  gamma = m.gamma;
  ratio = ltb (s ! 19) 3 && (codes_zero s 38 8 || m.ratio);
  revision = leb 4 (s ! 19);
}

pub gathered : (s : List ℕ)
    → in_block s (with_slot (with_slot (with_slot (with_slot no_marks (slot_in s 0)) (slot_in s 1)) (slot_in s 2)) (slot_in s 3)) ≡ marks_in s
unfolding with_slot in_block marks_in
gathered s = refl

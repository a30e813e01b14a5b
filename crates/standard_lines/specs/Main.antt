-- The lines before the descriptors, which need nothing of the input: the text of a panel has them too.
use Rattle.std.specs.Prelude.{◌≡◌, ℕ, List, [], ◌∷◌}
use Rattle.std.proofs.Common.{append_assoc}
use Rattle.page.specs.Words.{flat}
use Rattle.shared_lines.specs.Lines.{version_line, established_line, extensions_line}
use Rattle.standard_slot_lines.specs.Lines.{detailed_lines, descriptor_lines}
use Rattle.standard_record.specs.declared.StandardRecord.{StandardRecord}
use Rattle.standard_lines.specs.Lines.{product_line, display_lines, chroma_line, white_lines, standard_lines, record_lines}

unfoldable pub main_lines : StandardRecord → List ℕ
main_lines e = flat (
    product_line e.product ∷
    version_line e.version.version e.version.revision ∷
    display_lines e.display ∷
    chroma_line e.color.basic ∷
    white_lines e.color.points ∷
    established_line e.timings.established.items e.timings.established.len ∷
    standard_lines e.timings.standard ∷
    detailed_lines e.timings.detailed ∷ [])

-- the lines of a record are these, and behind them the descriptors' and the last one
pub main_first : (s : List ℕ) (e : StandardRecord)
    → record_lines s e ≡ flat (main_lines e ∷ descriptor_lines s e.descriptors ∷ extensions_line e.extensions ∷ [])
unfolding record_lines main_lines flat
main_first s e = simp append_assoc

-- The listing of a CTA-861 extension: what each line is, byte for byte, and their order.
use Rattle.std.specs.Prelude.{ℕ, min, cond, List, [], ◌∷◌, eqb, take, drop, Ok, Err}
use Rattle.page.specs.Words.{text, space, newline, field8, hex_of2, flat, each}
use Rattle.shared_lines.specs.Lines.{refuse_line}
use Rattle.standard_slot_lines.specs.Lines.{timing_fields}
use Rattle.steps.specs.declared.Span.{Span}
use Rattle.standard_record.specs.declared.DetailedTiming.{DetailedTiming}
use Rattle.standard_record.specs.Verdict.{Verdict}
use Rattle.cta_record.specs.Lists.{VideoDescriptors}
use Rattle.cta_record.specs.declared.DataBlock.{DataBlock}
use Rattle.cta_record.specs.Lists.{DataBlocks}
use Rattle.cta_record.specs.Lists.{CtaTimings}
use Rattle.cta_record.specs.declared.Cta.{Cta}
use Rattle.cta_reading.specs.Cta.{cta_of}

unfoldable pub head_line : ℕ → ℕ → ℕ → List ℕ
head_line revision offset support = flat (text "cta" ∷ field8 revision ∷ field8 offset ∷ field8 support ∷ newline ∷ [])

-- in this list and the others, a length above the list's size counts as that size
unfoldable pub video_line : VideoDescriptors → List ℕ
video_line l = flat (text "video" ∷ each field8 (take (min l.len 119) l.items) ∷ newline ∷ [])

-- ---- data blocks

-- the bytes of a block; nothing where there are none
unfoldable pub run_field : List ℕ → Span → List ℕ
run_field s d = cond (eqb d.len 0) [] (flat (space ∷ each hex_of2 (take d.len (drop d.start s)) ∷ []))

unfoldable pub block_line : List ℕ → DataBlock → List ℕ
block_line s b = flat (text "block" ∷ field8 b.tag ∷ run_field s b.run ∷ newline ∷ [])

unfoldable pub block_lines : List ℕ → DataBlocks → List ℕ
block_lines s l = each (block_line s) (take (min l.len 123) l.items)

-- ---- timings

-- as in the standard listing, without a slot's number
unfoldable pub timing_line : DetailedTiming → List ℕ
timing_line d = flat (timing_fields d ∷ newline ∷ [])

unfoldable pub timing_lines : CtaTimings → List ℕ
timing_lines l = each timing_line (take (min l.len 6) l.items)

-- ---- the whole

unfoldable pub record_lines : List ℕ → Cta → List ℕ
record_lines s c =
    flat (head_line c.revision c.offset c.support ∷ video_line c.video ∷ block_lines s c.blocks ∷ timing_lines c.timings ∷ [])

unfoldable pub judged_lines : List ℕ → Cta → Verdict → List ℕ
judged_lines s c (Ok tt) = flat (text "accept\n" ∷ record_lines s c ∷ [])
judged_lines s c (Err f) = refuse_line f

-- of the extension s
unfoldable pub listing_of : List ℕ → List ℕ
listing_of s = judged_lines s (cta_of s).cta (cta_of s).end

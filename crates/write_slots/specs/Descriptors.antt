-- Laws: a descriptor's slot, kind by kind: texts and runs.
use Rattle.std.specs.Prelude.{ℕ, ◌+◌, ◌≤◌, ◌≡◌, refl, Bool, true, List, [], ◌∷◌, eqb, leb, ltb, length}
use Rattle.std.proofs.Common.{sym, ap, ◌∙◌, arith, length-take, length-drop, take_all, eqb-true, eq-eqb, ne_eqb, le-leb, leb-true, le-ltb, ltb-true}
use Rattle.bits.specs.Bytes.{part}
use Rattle.fixed.specs.Fixed.{pad}
use Rattle.steps.specs.Spans.{Inside}
use Rattle.steps.specs.declared.Span.{Span}
use Rattle.tags.specs.Tags.{tag_of}
use Rattle.tags.specs.declared.Tag.{Tag}
use Rattle.standard_record.specs.declared.Descriptor.{Descriptor}
use Rattle.standard_parts.specs.declared.Structure.{Structure}
use Rattle.standard_slots.specs.Said.{said}
use Rattle.write_leaf.specs.Bytes.{Bytes, digit}
use Rattle.write_leaf.specs.Digits.{two_hold}
use Rattle.write_leaf.specs.Again.{part_bytes}
use Rattle.write_parts.specs.Text.{ReadsText, WritesText}
use Rattle.write_slots.specs.Words.{Words, serial, text, name, undefined, maker_defined, bytes_of, entries, these, shows}
use Rattle.write_slots.specs.Slot.{tagged}
use Rattle.write_slots.specs.Writes.{Reads, WritesDescriptor}
use Rattle.write_slots.specs.Tests.{within, exact, WritesSpan, middle, run_fits}
use Rattle.write_slots.specs.Runs.{pad_whole}
use Rattle.write_slots.specs.Tells.{part_size, tells}

-- ---- spans

-- a span that lies inside shows as many bytes as it says
pub shown_size : (lent : List ℕ) (s : Span) → Inside s (length lent) → length (bytes_of lent s) ≡ s.len
shown_size lent s h = simp (length-take, length-drop) (omega arith)

-- so many of them
pub exact_is : (size : ℕ) (s : Span) (n : ℕ) → exact size s n ≡ true → (s.len ≡ size) × Inside s n
exact_is size s n h =
    let e = two_hold (eqb s.len size) (within s n) h in
    (eqb-true s.len size e.0, leb-true (s.start + s.len) n e.1)

pub is_exact : (size : ℕ) (s : Span) (lent : List ℕ) → Inside s (length lent) → length (bytes_of lent s) ≡ size → exact size s (length lent) ≡ true
is_exact size s lent h e = rw (eq-eqb s.len size (sym (shown_size lent s h) ∙ e), le-leb (s.start + s.len) (length lent) h)

-- ---- texts

pub writes_span : (lent : List ℕ) (s : Span) (f : Bool) (b : List ℕ) → WritesText (bytes_of lent s) f b
    → WritesSpan lent s (eqb (digit (within s (length lent)) + digit f) 2) b
writes_span lent s f b w =
    record {
      made = w.made;
      sound = λ h. let e = two_hold (within s (length lent)) f h in (leb-true (s.start + s.len) (length lent) e.0, w.sound e.1);
      complete = λ t h r. rw (le-leb (s.start + s.len) (length lent) r.0, w.complete t h r.1);
    }

abbrev pub Shown : Structure → List ℕ → Words → Type 0
Shown σ t w = shows t (said σ 1 t 0) ≡ these (entries [] [] [] (w ∷ []))

module _ (σ : Structure) (b u : List ℕ) (r : ReadsText b u) where
  serial_shown : Shown σ (tagged 0xff b) (serial u)
  unfolding said tag_of
  serial_shown = rw (take_all 13 b (omega (arith, r.size)), r.padded, r.is)

  text_shown : Shown σ (tagged 0xfe b) (text u)
  unfolding said tag_of
  text_shown = rw (take_all 13 b (omega (arith, r.size)), r.padded, r.is)

  name_shown : Shown σ (tagged 0xfc b) (name u)
  unfolding said tag_of
  name_shown = rw (take_all 13 b (omega (arith, r.size)), r.padded, r.is)

module _ (σ : Structure) (lent : List ℕ) (s : Span) (f : Bool) (b : List ℕ) (w : WritesSpan lent s f b) where
  abbrev u : List ℕ
  u = bytes_of lent s

  sound : (tag : ℕ) (k : Words) → (ReadsText b u → Shown σ (tagged tag b) k) → f ≡ true → Inside s (length lent) × Reads σ (tagged tag b) (entries [] [] [] (k ∷ []))
  sound tag k e h = let r = w.sound h in (r.0, record { size = omega (arith, r.1.size); shown = e r.1 })

  complete : (t : List ℕ) → Bytes t → Inside s (length lent) → ReadsText (part t 5 13) u → f ≡ true
  complete t h i r = w.complete (part t 5 13) (part_bytes t 5 13 h) (i, r)

  pub writes_serial : WritesDescriptor σ lent (Descriptor.Serial s) f (tagged 0xff b)
  writes_serial = record {
    made = ap (tagged 0xff) w.made;
    sound = sound 0xff (serial u) (serial_shown σ b u);
    complete = λ t h r. complete t h r.0 (tells t r.1.size h σ (serial u) r.1.shown);
  }

  pub writes_text : WritesDescriptor σ lent (Descriptor.Text s) f (tagged 0xfe b)
  writes_text = record {
    made = ap (tagged 0xfe) w.made;
    sound = sound 0xfe (text u) (text_shown σ b u);
    complete = λ t h r. complete t h r.0 (tells t r.1.size h σ (text u) r.1.shown);
  }

  pub writes_name : WritesDescriptor σ lent (Descriptor.Name s) f (tagged 0xfc b)
  writes_name = record {
    made = ap (tagged 0xfc) w.made;
    sound = sound 0xfc (name u) (name_shown σ b u);
    complete = λ t h r. complete t h r.0 (tells t r.1.size h σ (name u) r.1.shown);
  }

-- ---- runs of 13 bytes

raw_tag : (n : ℕ) → n ≤ 0xf9 → (n ≡ 0x10 → ⊥) → tag_of n ≡ Tag.Raw
unfolding tag_of
raw_tag n h k =
    rw (
      ne_eqb n 0x10 k,
      ne_eqb n 0xfa (λ e. omega arith),
      ne_eqb n 0xfb (λ e. omega arith),
      ne_eqb n 0xfc (λ e. omega arith),
      ne_eqb n 0xfd (λ e. omega arith),
      ne_eqb n 0xfe (λ e. omega arith),
      ne_eqb n 0xff (λ e. omega arith),
    )

undefined_shown : (σ : Structure) (tag : ℕ) (u : List ℕ) → middle tag ≡ true → length u ≡ 13 → Shown σ (tagged tag u) (undefined tag u)
unfolding said
undefined_shown σ tag u h e =
    let m = two_hold (leb 0x11 tag) (leb tag 0xf9) h in
    let least = leb-true 0x11 tag m.0 in
    let most = leb-true tag 0xf9 m.1 in
    rw (raw_tag tag most (λ e. omega arith), le-ltb tag 0x10 (omega arith), take_all 13 u (omega arith))

maker_shown : (σ : Structure) (tag : ℕ) (u : List ℕ) → ltb tag 0x10 ≡ true → length u ≡ 13 → Shown σ (tagged tag u) (maker_defined tag u)
unfolding said
maker_shown σ tag u h e =
    let most = ltb-true tag 0x10 h in
    rw (raw_tag tag (omega arith) (λ e. omega arith), h, take_all 13 u (omega arith))

module _ (σ : Structure) (lent : List ℕ) (tag : ℕ) (s : Span) where
  abbrev run : List ℕ
  run = bytes_of lent s

  run_sound : (known : Bool) (k : Words) → (known ≡ true → length run ≡ 13 → Shown σ (tagged tag run) k) → run_fits known s (length lent) ≡ true
      → Inside s (length lent) × Reads σ (tagged tag (pad 13 0 run)) (entries [] [] [] (k ∷ []))
  run_sound known k e h =
      let p = two_hold known (exact 13 s (length lent)) h in
      let q = exact_is 13 s (length lent) p.1 in
      let z : length run ≡ 13 = shown_size lent s q.1 ∙ q.0 in
      (q.1, rw (pad_whole 13 run z) (record { size = omega arith; shown = e p.0 z }))

  run_complete : (t : List ℕ) → Bytes t → length t ≡ 18 → Inside s (length lent) → (known : Bool) → known ≡ true → part t 5 13 ≡ run
      → run_fits known s (length lent) ≡ true
  run_complete t b e h known p q = rw (p, is_exact 13 s lent h (ap length (sym q) ∙ part_size t e b))

  pub writes_undefined : WritesDescriptor σ lent (Descriptor.Undefined tag s) (run_fits (middle tag) s (length lent)) (tagged tag (pad 13 0 run))
  writes_undefined = record {
    made = refl;
    sound = run_sound (middle tag) (undefined tag run) (undefined_shown σ tag run);
    complete = λ t b r.
        let e = tells t r.1.size b σ (undefined tag run) r.1.shown in
        run_complete t b r.1.size r.0 (middle tag) e.0 e.1;
  }

  pub writes_maker : WritesDescriptor σ lent (Descriptor.MakerDefined tag s) (run_fits (ltb tag 0x10) s (length lent)) (tagged tag (pad 13 0 run))
  writes_maker = record {
    made = refl;
    sound = run_sound (ltb tag 0x10) (maker_defined tag run) (maker_shown σ tag run);
    complete = λ t b r.
        let e = tells t r.1.size b σ (maker_defined tag run) r.1.shown in
        run_complete t b r.1.size r.0 (ltb tag 0x10) e.0 e.1;
  }

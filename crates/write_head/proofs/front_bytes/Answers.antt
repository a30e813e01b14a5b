-- `write_head::front_bytes` meets its contract: what its callees ensure, put into the theorem. Assumes nothing.
use borrow.Author.Rules.{rules}
use Rattle.write_head.specs.Fronts.{writes_front}
use Rattle.write_head.proofs.front_bytes.Goals as goal

pub returns : goal.returns
returns c =
    let σ = c.structure_of-structure.ensures in
    let n = c.number_bytes-n.ensures in
    let k = c.color_bytes-c.ensures in
    rw (c.all_fit-fits.ensures, k.fits, k.bytes, n.fits, n.bytes, σ)
    (writes_front (record {
      code = search rules;
      serial = search rules;
      maker = c.maker_bytes-maker.ensures;
      input = rw σ at c.input_byte-input.ensures;
      image = rw σ at c.image_bytes-size.ensures;
      gamma = c.gamma_byte-gamma.ensures;
      features = c.features_byte-features.ensures;
      flags = c.flag_bytes-flags.ensures;
    }))

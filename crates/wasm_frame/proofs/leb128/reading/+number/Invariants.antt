use Rattle.wasm_frame.proofs.leb128.reading.+number.Given as goal

abbrev pub decreases-number : goal.decreases-number
decreases-number l = l.width

use Rattle.std.specs.Int.{w64, to_be_bytes}
use Rattle.std.proofs.lemmas.Result.{err_from_is_err_and}
use Rattle.volume_image.proofs.Putting.{item_not_put}
use Rattle.volume_image.proofs.writing.put_words.Goals as goal

pub returns-in_err-put_word : goal.returns-in_err-put_word
returns-in_err-put_word c =
    let p = err_from_is_err_and c.from_residual.result c.from_residual.ensures.1 in
    rw p.1 (item_not_put (to_be_bytes w64) c.args.words.now c.loop-word.word-index 0 c.args.out.now c.loop-word.out c.put_word.new.out tt p.0 c.loop-word-test.true c.loop-word.invariant c.in_err-put_word.ensures)

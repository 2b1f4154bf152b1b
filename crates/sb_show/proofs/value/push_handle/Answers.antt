use Rattle.sb_log.specs.Handles.{text_of_handle}
use Rattle.sb_show.proofs.value.push_handle.Goals as goal

pub returns : goal.returns
unfolding text_of_handle
returns c =
    rw (← c.from_u128.ensures, ← c.hyphenated.ensures, ← c.encode_lower-text.ensures.text) c.push_text.ensures

-- The lines in a few cases, as document 01 writes them.
use mathlib.Core.Path.{◌≡◌, refl}
use mathlib.Core.Bool.{true, false}
use Rattle.answer.specs.declared.Refusal.TheVariants.{InvalidMagic, LengthTooShort}
use Rattle.text.specs.Texts.{text}
use Rattle.dss_head.specs.declared.DssType.TheVariants.{Request, Communication, NoReply}
use Rattle.lines.specs.Lines.{frame_text, refused_text, end_text}

frames : (frame_text 0 (record { length = 10; dss_type = Request; flags = record { chained = false; continue_on_error = false; same_correlation = false }; correlation_id = 1 }) 1 4
    ≡ text "at 0 request --- corr 1 seg 1 bytes 4\n")
    × (frame_text 65530 (record { length = 6; dss_type = Communication; flags = record { chained = true; continue_on_error = true; same_correlation = true }; correlation_id = 65535 }) 10922 65530
    ≡ text "at 65530 communication ces corr 65535 seg 10922 bytes 65530\n")
    × (frame_text 6 (record { length = 6; dss_type = NoReply; flags = record { chained = false; continue_on_error = false; same_correlation = true }; correlation_id = 7 }) 2 9
    ≡ text "at 6 noreply --s corr 7 seg 2 bytes 9\n")
unfolding frame_text
frames = (refl, refl, refl)

others : (refused_text (record { why = InvalidMagic 209; place = 6 }) ≡ text "refused 2 at 6 value 209\n")
    × (refused_text (record { why = LengthTooShort 5; place = 0 }) ≡ text "refused 7 at 0 value 5\n")
    × (end_text 16 0 ≡ text "end 16 left 0\n")
unfolding refused_text end_text
others = (refl, refl, refl)

-- `dss_reader::DssReader::read_all_frames` meets its contract: the room by what `gather_frames` ensures, the row by what `dss_row::fill_rows` ensures.
use Rattle.dss_reader.proofs.GatheredFrames.{read_all_is}
use Rattle.dss_reader.proofs.DssReader.read_all_frames.Goals as goal

pub returns : goal.returns
returns c =
    let a = c.args in
    read_all_is a.run.now a.self.position a.room.now a.row.now _ _ _ _ c.gather_frames-read.ensures c.records_in.ensures c.fill_rows.ensures

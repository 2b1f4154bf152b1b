-- What this crate's views of rows stand for.
use Rattle.sb_log.specs.declared.requests.Row.{Row}
use Rattle.sb_scan.specs.declared.rows.SeenRow.{SeenRow}

abbrev pub row_seen : SeenRow → Row
row_seen r = record { n = r.n; body = r.body.now }

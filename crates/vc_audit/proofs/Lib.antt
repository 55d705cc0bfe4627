pub mod LinesAreReplayed
pub mod PiecesOfReports
pub mod ScriptsAreReplayed
mod LinesAreCutOff

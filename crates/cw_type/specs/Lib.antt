pub mod Outcome
pub use Rattle.cw_judge.specs as judge

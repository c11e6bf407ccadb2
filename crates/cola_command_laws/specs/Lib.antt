pub mod Example
pub mod HeadlineLaws
pub mod MirrorLaws
pub mod CheckLaws
pub mod UpgradeLaws
pub mod RebuildLaws
